-- Nodes of a tape whose `T`s have the texts of sets of versions: what stepping back to version i asks of them.
use Rattle.std.specs.Prelude.{ℕ, ◌+◌, ◌%◌, ◌<◌, ◌≤◌, ◌≡◌, refl, Bool, true, List, eqb}
use Rattle.std.proofs.Common.{arith, sym, ◌∙◌}
use Rattle.std.proofs.Math.Path.{ap}
use borrow.Author.Tests.{eqb-true, eqb-false}
use Rattle.xml.specs.Bytes.{Bytes}
use Rattle.xml.specs.Forest.{Forest, elem, text, stamp}
use Rattle.xml.specs.Read.{is_end}
use Rattle.xml.specs.Truth.{clash, by-test, and_both}
use Rattle.xml.specs.Tape.{head_at, next_at, Tape, at-end, at-text, at-elem, at-stamp}
use Rattle.xml.specs.TapeLaws.{bytes_at, split, inner-node, front, tape-le}
use Rattle.keys.specs.KeyList.{KeyList}
use Rattle.timestamp.specs.Times.{always, last_number}
use Rattle.timestamp.specs.Parse.{Outcome, refused, accepted, parsed}
use Rattle.timestamp.specs.Place.{IsSet}
use Rattle.versions.specs.Archive.{last_version}
use Rattle.versions.specs.Walk.{times_in, canonical, ever, forest_legal}
use Rattle.versions.specs.SetLaws.{times_in-cut}
use Rattle.versions.specs.BackLaws.{length-always, take-always}
use Rattle.versions.specs.LegalTexts.{fits, legal-text}
use Rattle.versions.specs.AllTimed.{AllTimed, timed-join, timed-forest, legal-last, outer}

pub record Timely (i : ℕ) (src cells : List ℕ) (lo hi : ℕ) : Type 0 where
  pub last : ℕ
  pub reach : i ≤ last
  pub small : last ≤ 999
  pub forest : Forest
  pub tape : Tape src cells lo hi forest
  pub timed : AllTimed last forest

-- a text of a set of some 1 to n versions
record LegalText (s : Bytes) : Type 0 where
  last : ℕ
  small : last ≤ 999
  text-is : canonical last s ≡ true
  some-there : ever (times_in last s) ≡ true

-- it is read
legal-read : (s : Bytes) → LegalText s → (u : ℕ → Bool) × (parsed s ≡ accepted u)
legal-read s h = go (parsed s) refl
  where
    go : (o : Outcome) → parsed s ≡ o → (u : ℕ → Bool) × (parsed s ≡ accepted u)
    go refused e = clash (sym (sym (legal-text h.last s h.small) ∙ and_both _ _ h.text-is h.some-there) ∙ ap (fits h.last) e)
    go (accepted u) e = (u, e)

module _ {i : ℕ} {src cells : List ℕ} where
  pub timely-first : {p q : ℕ} → Timely i src cells p q → p < q → Timely i src cells p (next_at cells p)
  timely-first x l =
      let s = split x.tape l in
      record { last = x.last; reach = x.reach; small = x.small; forest = s.first; tape = s.here; timed = (timed-join x.last s.first s.rest (rw s.is at x.timed)).0 }

  pub timely-rest : {p q : ℕ} → Timely i src cells p q → p < q → Timely i src cells (next_at cells p) q
  timely-rest x l =
      let s = split x.tape l in
      record { last = x.last; reach = x.reach; small = x.small; forest = s.rest; tape = s.after; timed = (timed-join x.last s.first s.rest (rw s.is at x.timed)).1 }

  -- what an element or a `T` holds
  pub timely-inside : {p : ℕ} → Timely i src cells p (next_at cells p) → p < next_at cells p → (head_at cells p % 4 ≡ 0 → ⊥) → Timely i src cells (p + 1) (next_at cells p)
  unfolding AllTimed
  timely-inside {p} x l k =
      let n = inner-node x.tape l k in
      let b = (front x.tape l).kind in
      let inner : AllTimed x.last n.kids =
      by-test (eqb (head_at cells p % 4) 1) (λ e. (rw (n.element (eqb-true _ 1 e)) at x.timed).0)
      (λ e. (rw (n.timed (omega (arith, k, eqb-false (head_at cells p % 4) 1 e))) at x.timed).2) in
      record { last = x.last; reach = x.reach; small = x.small; forest = n.kids; tape = n.tape; timed = inner }

  -- a `T`'s text
  timely-text : {p : ℕ} → Timely i src cells p (next_at cells p) → p < next_at cells p → head_at cells p % 4 ≡ 2 → LegalText (bytes_at src cells p)
  unfolding AllTimed
  timely-text x l k =
      let n = inner-node x.tape l (λ e. omega arith) in
      let h = rw (n.timed k) at x.timed in
      record { last = x.last; small = x.small; text-is = h.0; some-there = h.1 }

  -- which is that of a set
  pub timely-set : {p : ℕ} → Timely i src cells p (next_at cells p) → p < next_at cells p → head_at cells p % 4 ≡ 2 → IsSet (bytes_at src cells p)
  timely-set {p} x l k = let y = legal-read (bytes_at src cells p) (timely-text x l k) in record { s = y.0; is = y.1 }

  -- what the outer `T` of a whole archive holds
  pub timely-whole : {hi : ℕ} → Timely i src cells 0 hi → 0 < hi → next_at cells 0 ≡ hi → head_at cells 0 % 4 ≡ 2 → Timely i src cells 1 hi
  timely-whole x l e k = rw e at (timely-inside (rw (← e) at x) (rw e l) (λ z. omega arith))

  -- a legal archive is such
  pub legal-timely : (K : KeyList) {hi : ℕ} {f : Forest} → forest_legal K f ≡ true → Tape src cells 0 hi f → i ≤ last_version f → Timely i src cells 0 hi
  legal-timely K {f = f} h t l = record { last = last_version f; reach = l; small = legal-last K f h; forest = f; tape = t; timed = timed-forest K f h }

-- and its outer `T` is all of it
module _ {src cells : List ℕ} where
  pub legal-outer : (K : KeyList) {hi : ℕ} {f : Forest} → forest_legal K f ≡ true → Tape src cells 0 hi f → (0 < hi) × (next_at cells 0 ≡ hi) × (head_at cells 0 % 4 ≡ 2)
  unfolding forest_legal is_end
  legal-outer K h (at-end e) = clash (sym h)
  legal-outer K h (at-text n u e r) = clash (sym h)
  legal-outer K h (at-elem n k r) = clash (sym h)
  legal-outer K h (at-stamp n k (at-end e)) = (omega (arith, tape-le k), e, n.kind-is)
  legal-outer K h (at-stamp {t = s} {k = j} n k (at-text {b = b} {r = f} m u e r)) = clash (sym (outer K s j (text b f) h).alone)
  legal-outer K h (at-stamp {t = s} {k = j} n k (at-elem {n = b} {k = g} {r = f} m x r)) = clash (sym (outer K s j (elem b g f) h).alone)
  legal-outer K h (at-stamp {t = s} {k = j} n k (at-stamp {t = b} {k = g} {r = f} m x r)) = clash (sym (outer K s j (stamp b g f) h).alone)

  -- whose text has all versions
  pub legal-all : (K : KeyList) (i : ℕ) {hi : ℕ} {f : Forest} → forest_legal K f ≡ true → Tape src cells 0 hi f → i ≤ last_version f → times_in i (bytes_at src cells 0) ≡ always i
  unfolding forest_legal last_version
  legal-all K i h (at-end e) l = clash (sym h)
  legal-all K i h (at-text n u e r) l = clash (sym h)
  legal-all K i h (at-elem n k r) l = clash (sym h)
  legal-all K i h (at-stamp {t = s} {k = j} {r = f} n k r) l =
      let o = outer K s j f h in
      let m = last_number s in
      ap (times_in i) (n.bytes-are ∙ o.text-is) ∙ times_in-cut i (always m) (omega (arith, length-always m)) (omega (arith, length-always m, o.small)) ∙ take-always i m l
