-- The nodes that count, tallied one by one along a tape.
use Prim.Native.Nat.{ℕ, zero, suc, ◌+◌, ◌-◌, ◌%◌, ◌≤◌, ◌<◌}
use native.Mathlib.Omega.{arith}
use Rattle.std.specs.Prelude.{◌≡◌, Bool, List}
use Rattle.std.proofs.Math.Path.{refl, ap, ap₂}
use Rattle.std.proofs.Common.{◌∙◌}
use Rattle.std.proofs.Math.Bool.{true, false}
use Rattle.xml.specs.Bytes.{Bytes, bytes, same}
use Rattle.xml.specs.Forest.{Forest, nodes}
use Rattle.xml.specs.Tape.{head_at, next_at, Node, Tape, at-end, at-text, at-elem, at-stamp, size}
use Rattle.xml.specs.TapeLaws.{bytes_at, tape-size}
use Rattle.xml.specs.Truth.{bool_by}
use Rattle.versions.specs.Untimed.{named, timed_at, timed-two, timed-one, timed-none}

-- a node counts for one, unless it is a `T` or an element with that name
abbrev pub weight : Bool → ℕ
weight true = 0
weight false = 1

pub weight-most : (b : Bool) → weight b ≤ 1
weight-most true = omega arith
weight-most false = omega arith

-- how many of the k nodes from p on count
unfoldable pub tally : List ℕ → List ℕ → ℕ → ℕ → ℕ
tally src cells zero p = 0
tally src cells (suc k) p = weight (timed_at src cells p) + tally src cells k (p + 1)

module _ (src cells : List ℕ) where
  tally-split : (a b p : ℕ) → tally src cells (a + b) p ≡ tally src cells a p + tally src cells b (p + a)
  unfolding tally
  tally-split zero b p =
      let y : 0 + b ≡ b = omega arith in
      let z : p + 0 ≡ p = omega arith in
      rw (y, z) (omega arith)
  tally-split (suc a) b p =
      let y : suc a + b ≡ suc (a + b) = omega arith in
      let z : p + suc a ≡ p + 1 + a = omega arith in
      rw (y, z) (omega (arith, tally-split a b (p + 1)))

  -- the first node, and those after it
  pub tally-more : (p q : ℕ) → p < q → tally src cells (q - p) p ≡ weight (timed_at src cells p) + tally src cells (q - (p + 1)) (p + 1)
  unfolding tally
  tally-more p q l = let z : q - p ≡ suc (q - (p + 1)) = omega arith in rw z

  pub tally-none : (p q : ℕ) → q ≤ p → tally src cells (q - p) p ≡ 0
  unfolding tally
  tally-none p q l = let z : q - p ≡ 0 = omega arith in rw z

module _ {src cells : List ℕ} where
  weight-text : {p : ℕ} {b : Bytes} → Node src cells p 0 b → weight (timed_at src cells p) ≡ 1
  weight-text {p} n = ap weight (timed-none (head_at cells p % 4) (bytes_at src cells p) (λ y. omega (arith, n.kind-is)) (λ y. omega (arith, n.kind-is)))

  weight-elem : {p : ℕ} {b : Bytes} → Node src cells p 1 b → weight (timed_at src cells p) ≡ elim (same b (bytes "T")) [ true ↦ 0 | false ↦ 1 ]
  unfolding named
  weight-elem {p} {b} n =
      ap weight (timed-one (head_at cells p % 4) (bytes_at src cells p) n.kind-is ∙ ap named n.bytes-are) ∙ bool_by (λ x. weight x ≡ elim x as (λ _. ℕ) [ true ↦ 0 | false ↦ 1 ]) (same b (bytes "T")) (λ _. refl) (λ _. refl)

  weight-stamp : {p : ℕ} {b : Bytes} → Node src cells p 2 b → weight (timed_at src cells p) ≡ 0
  weight-stamp {p} n = ap weight (timed-two (head_at cells p % 4) (bytes_at src cells p) n.kind-is)

  -- a node, what it holds, and what comes after it
  tally-node : (p : ℕ) (r : Forest) {k : Forest} → Tape src cells (p + 1) (next_at cells p) k
      → tally src cells (1 + size k + size r) p ≡ weight (timed_at src cells p) + tally src cells (size k) (p + 1) + tally src cells (size r) (next_at cells p)
  unfolding tally
  tally-node p r {k} t =
      let y : 1 + size k + size r ≡ suc (size k + size r) = omega arith in
      rw (y, tape-size t) (omega (arith, tally-split src cells (size k) (size r) (p + 1)))

  tally-forest : {p q : ℕ} {f : Forest} → Tape src cells p q f → tally src cells (size f) p ≡ nodes f
  unfolding size nodes tally
  tally-forest (at-end e) = refl
  tally-forest (at-text {r = r} n u e t) =
      let y : 1 + size r ≡ suc (size r) = omega arith in
      rw y (omega (arith, weight-text n, tally-forest t))
  tally-forest {p} (at-elem {r = r} n i t) = tally-node p r i ∙ ap₂ (λ x y. x + y) (ap₂ (λ x y. x + y) (weight-elem n) (tally-forest i)) (tally-forest t)
  tally-forest {p} (at-stamp {r = r} n i t) =
      tally-node p r i ∙ omega (arith, weight-stamp n, tally-forest i, tally-forest t)

  -- what a tape's nodes tally to
  pub tally-nodes : {p q : ℕ} {f : Forest} → Tape src cells p q f → tally src cells (q - p) p ≡ nodes f
  tally-nodes {p} {q} {f} t = let z : q - p ≡ size f = omega (arith, tape-size t) in rw z (tally-forest t)
