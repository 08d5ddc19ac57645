-- Content with no `T`: a test of each node of its tape.
use Rattle.std.specs.Prelude.{ℕ, ◌+◌, ◌%◌, ◌<◌, ◌≤◌, ◌≡◌, Bool, ◌&&◌, ◌||◌, List, eqb, leb}
use Rattle.std.proofs.Common.{arith, ◌∙◌}
use Rattle.std.proofs.Math.Path.{refl, sym, ap}
use Rattle.std.proofs.Math.Bool.{true, false, not}
use borrow.Author.Tests.{ne_eqb, eqb-true, eqb-false, leb-true, leb-false}
use Rattle.xml.specs.Bytes.{Bytes, bytes, same}
use Rattle.xml.specs.Forest.{Forest}
use Rattle.xml.specs.Tape.{head_at, next_at, Node, Tape, at-end, at-text, at-elem, at-stamp}
use Rattle.xml.specs.TapeLaws.{bytes_at, tape-le}
use Rattle.xml.specs.Truth.{by-test, clash, and_both, not_so, and_left, and_right}
use Rattle.keys.specs.Legal.{untimed}

-- an element with the name T
unfoldable pub named : Bytes → Bool
named n = same n (bytes "T")

-- a node of this kind, named by these bytes, is a `T` or an element with that name
unfoldable pub timed_node : ℕ → Bytes → Bool
timed_node kind n = eqb kind 2 || (eqb kind 1 && named n)

abbrev pub timed_at : List ℕ → List ℕ → ℕ → Bool
timed_at src cells i = timed_node (head_at cells i % 4) (bytes_at src cells i)

pub timed-two : (kind : ℕ) (n : Bytes) → kind ≡ 2 → timed_node kind n ≡ true
unfolding timed_node
timed-two kind n e = rw e

pub timed-one : (kind : ℕ) (n : Bytes) → kind ≡ 1 → timed_node kind n ≡ named n
unfolding timed_node
timed-one kind n e = rw e

pub timed-none : (kind : ℕ) (n : Bytes) → (kind ≡ 2 → ⊥) → (kind ≡ 1 → ⊥) → timed_node kind n ≡ false
unfolding timed_node
timed-none kind n h g = rw (ne_eqb kind 2 h, ne_eqb kind 1 g)

module _ {src cells : List ℕ} where
  elem-node : {p : ℕ} {n : Bytes} → Node src cells p 1 n → timed_at src cells p ≡ same n (bytes "T")
  unfolding named
  elem-node {p} n = timed-one (head_at cells p % 4) (bytes_at src cells p) n.kind-is ∙ ap named n.bytes-are

  -- no node is one
  pub untimed-all : {p q : ℕ} {f : Forest} → Tape src cells p q f → ((i : ℕ) → p ≤ i → i < q → timed_at src cells i ≡ false) → untimed f ≡ true
  unfolding untimed
  untimed-all (at-end e) h = refl
  untimed-all (at-text n u e r) h = untimed-all r (λ i a b. h i (omega arith) b)
  untimed-all {p} (at-elem {n = b} {k = f} {r = g} n k r) h =
      let x = tape-le k in
      let y = tape-le r in
      let z : same b (bytes "T") ≡ false = sym (elem-node n) ∙ h p (omega arith) (omega arith) in
      and_both (not (same b (bytes "T")) && untimed f) (untimed g)
      (and_both (not (same b (bytes "T"))) (untimed f) (ap not z) (untimed-all k (λ i a c. h i (omega arith) (omega arith))))
      (untimed-all r (λ i a c. h i (omega arith) c))
  untimed-all {p} (at-stamp n k r) h =
      let x = tape-le k in
      let y = tape-le r in
      clash (sym (timed-two (head_at cells p % 4) (bytes_at src cells p) n.kind-is) ∙ h p (omega arith) (omega arith))

  -- one is
  pub untimed-not : {p q : ℕ} {f : Forest} (i : ℕ) → Tape src cells p q f → p ≤ i → i < q → timed_at src cells i ≡ true → untimed f ≡ false
  unfolding untimed
  untimed-not i (at-end e) h l t = absurd (omega arith)
  untimed-not {p} i (at-text n u e r) h l t =
      by-test (eqb i p)
      (λ x. let z : timed_at src cells p ≡ true = rw (← eqb-true i p x) t in
      clash (sym z ∙ timed-none (head_at cells p % 4) (bytes_at src cells p) (λ y. omega (arith, n.kind-is)) (λ y. omega (arith, n.kind-is))))
      (λ x. untimed-not i r (omega (arith, eqb-false i p x)) l t)
  untimed-not {p} i (at-elem {n = b} {k = f} {r = g} n k r) h l t =
      not_so (not (same b (bytes "T")) && untimed f && untimed g) (λ w.
      let v = and_left (not (same b (bytes "T")) && untimed f) (untimed g) w in
      by-test (eqb i p)
      (λ x. let z : timed_at src cells p ≡ true = rw (← eqb-true i p x) t in
      clash (sym (and_left (not (same b (bytes "T"))) (untimed f) v) ∙ ap not (sym (elem-node n) ∙ z)))
      (λ x. by-test (leb (next_at cells p) i)
      (λ y. clash (sym (and_right (not (same b (bytes "T")) && untimed f) (untimed g) w) ∙ untimed-not i r (leb-true (next_at cells p) i y) l t))
      (λ y. clash (sym (and_right (not (same b (bytes "T"))) (untimed f) v) ∙ untimed-not i k (omega (arith, eqb-false i p x)) (leb-false (next_at cells p) i y) t))))
  untimed-not i (at-stamp n k r) h l t = refl

pub untimed-more : (src cells : List ℕ) {p : ℕ} (i : ℕ) → ((j : ℕ) → p ≤ j → j < i → timed_at src cells j ≡ false) → timed_at src cells i ≡ false
    → (j : ℕ) → p ≤ j → j < i + 1 → timed_at src cells j ≡ false
untimed-more src cells i h e j a b =
    by-test (eqb j i) (λ x. let z = eqb-true j i x in rw z e) (λ x. h j a (omega (arith, eqb-false j i x)))
