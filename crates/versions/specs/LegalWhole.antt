-- A whole archive judged: its outer `T`, then what it holds. A legal archive has no element named T.
use Rattle.std.specs.Prelude.{ℕ, ◌+◌, ◌%◌, ◌≤◌, ◌<◌, ◌≡◌, Bool, true, false, not, ◌&&◌, leb, length}
use Rattle.std.proofs.Common.{arith, ◌∙◌}
use Rattle.std.proofs.Math.Path.{refl, sym, ap}
use Rattle.std.proofs.Math.Option.{some}
use mathlib.Core.List.{List, []}
use borrow.Author.Tests.{not-true, leb-true, lt-leb, le-leb}
use Rattle.xml.specs.Bytes.{Bytes, bytes, same, all}
use Rattle.xml.specs.Forest.{Forest, end, elem, text, stamp, nodes}
use Rattle.xml.specs.Read.{is_end}
use Rattle.xml.specs.Fits.{misnamed}
use Rattle.xml.specs.Tape.{head_at, next_at, Tape, at-end, at-text, at-elem, at-stamp, Valid}
use Rattle.xml.specs.TapeLaws.{bytes_at, tape-le, tape-none}
use Rattle.xml.specs.Truth.{by-test, clash, not_so, both_true, and_both, and_left, and_right}
use Rattle.keys.specs.KeyList.{Path, KeyList, listed, above, key_names_at}
use Rattle.keys.specs.Version.{◌▸◌, label, called, is_one_value}
use Rattle.keys.specs.Legal.{untimed}
use Rattle.keys.specs.Loading.{Tabled}
use Rattle.keys.specs.PlaceLaws.{place-root}
use Rattle.keys.specs.Walks.{Walk}
use Rattle.timestamp.specs.Times.{Times, same_times, always, write_times, last_number}
use Rattle.versions.specs.Archive.{last_version}
use Rattle.versions.specs.Walk.{times_in, canonical, ever, within, branches_in, all_timed, contents_apart, together, front_legal, is_sole, first_label, precedes, siblings_legal, all_small, inside_of, forest_legal}
use Rattle.versions.specs.OuterTimes.{is_outer, outer_last, outer-yes, outer-no, outer_tells, outer-most}
use Rattle.versions.specs.HistorySteps.{sole-end}

-- ---- no element is named T
named-untimed : (f : Forest) → untimed f ≡ true → misnamed f ≡ 0
unfolding untimed misnamed
named-untimed end h = refl
named-untimed (text b r) h = named-untimed r h
named-untimed (elem m k r) h =
    let h2 = both_true (not (same m (bytes "T")) && untimed k) (untimed r) h in
    let h1 = both_true (not (same m (bytes "T"))) (untimed k) h2.0 in
    rw (not-true (same m (bytes "T")) h1.0) (omega (arith, named-untimed k h1.1, named-untimed r h2.1))
named-untimed (stamp s k r) h = clash (sym h)

named-timed : (n : ℕ) (f : Forest) → all_timed n f ≡ true → misnamed f ≡ 0
unfolding all_timed misnamed
named-timed n end h = refl
named-timed n (text b r) h = clash (sym h)
named-timed n (elem m k r) h = clash (sym h)
named-timed n (stamp s k r) h =
    let h2 = both_true (canonical n s && untimed k) (all_timed n r) h in
    omega (arith, named-untimed k (and_right (canonical n s) (untimed k) h2.0), named-timed n r h2.1)

named-front : (n : ℕ) (t : Times) (f : Forest) → front_legal n t f ≡ true → misnamed f ≡ 0
unfolding front_legal misnamed
named-front n t end h = refl
named-front n t (text b r) h = named-untimed (text b r) h
named-front n t (elem m k r) h = named-untimed (elem m k r) h
named-front n t (stamp s k r) h =
    let f = stamp s k r in
    let h3 = and_left _ (same_times (together (branches_in n f)) t) h in
    let h2 = and_left _ (contents_apart (branches_in n f)) h3 in
    named-timed n f (and_left (all_timed n f) (leb 2 (length (branches_in n f))) h2)

named-siblings : (K : KeyList) (n : ℕ) (p : Path) (t : Times) (f : Forest) → siblings_legal K n p t f ≡ true → misnamed f ≡ 0
unfolding siblings_legal misnamed
named-siblings K n p t end h = refl
named-siblings K n p t (text b r) h = clash (sym h)
named-siblings K n p t (elem m k r) h =
    let h3 = both_true _ (siblings_legal K n p t r) h in
    let h2 = both_true _ (precedes (some (label K p m k)) (first_label K p r)) h3.0 in
    let h1 = both_true (listed K (p ▸ m) && not (same m (bytes "T"))) _ h2.0 in
    let z = go (above K (p ▸ m)) (λ x. named-siblings K n (p ▸ m) t k x) h1.1 in
    rw (not-true (same m (bytes "T")) (and_right (listed K (p ▸ m)) (not (same m (bytes "T"))) h1.0)) (omega (arith, z, named-siblings K n p t r h3.1))
  where
    go : (c : Bool) → (siblings_legal K n (p ▸ m) t k ≡ true → misnamed k ≡ 0)
        → elim c as (λ _. Bool) [ true ↦ all (λ key. is_one_value (called key k)) (key_names_at K (p ▸ m)) && siblings_legal K n (p ▸ m) t k | false ↦ front_legal n t k ] ≡ true → misnamed k ≡ 0
    go true ih x = ih (and_right (all (λ key. is_one_value (called key k)) (key_names_at K (p ▸ m))) (siblings_legal K n (p ▸ m) t k) x)
    go false ih x = named-front n t k x
named-siblings K n p t (stamp s k r) h =
    let v = times_in n s in
    let h7 = both_true _ (siblings_legal K n p t r) h in
    let h6 = both_true _ (precedes (first_label K p k) (first_label K p r)) h7.0 in
    let h5 = both_true (is_sole k && canonical n s && ever v && within v t && not (same_times v t)) (siblings_legal K n p v k) h6.0 in
    omega (arith, named-siblings K n p v k h5.1, named-siblings K n p t r h7.1)

-- ---- the outer `T` and its inside
-- the n of the versions of the outer `T` that the forest is, or 0 if it is none
unfoldable pub outer_of : Forest → ℕ
outer_of end = 0
outer_of (text b r) = 0
outer_of (elem m k r) = 0
outer_of (stamp s k r) = elim (is_end r) [ true ↦ outer_last s | false ↦ 0 ]

-- what is checked inside the outer `T` of n versions
unfoldable pub inside_legal : KeyList → ℕ → Forest → Bool
inside_legal K n k = leb (nodes k) 1024 && siblings_legal K n [] (always n) k && all_small n k

-- the last version of a legal archive, or 0 for a forest that is none
unfoldable pub whole_last : KeyList → Forest → ℕ
whole_last K f = elim (forest_legal K f) [ true ↦ last_version f | false ↦ 0 ]

whole-yes : (K : KeyList) (f : Forest) → forest_legal K f ≡ true → whole_last K f ≡ last_version f
unfolding whole_last
whole-yes K f e = rw (e, whole_last)

whole-no : (K : KeyList) (f : Forest) → forest_legal K f ≡ false → whole_last K f ≡ 0
unfolding whole_last
whole-no K f e = rw (e, whole_last)

-- what is checked of a legal archive's forest
record Whole (K : KeyList) (s : Bytes) (k r : Forest) : Type 0 where
  alone : is_end r ≡ true
  outer : is_outer s ≡ true
  inside : inside_legal K (last_number s) k ≡ true

whole_tells : (K : KeyList) (s : Bytes) (k r : Forest) → forest_legal K (stamp s k r) ≡ true → Whole K s k r
unfolding forest_legal is_outer inside_legal
whole_tells K s k r h =
    let n = last_number s in
    let h7 = both_true _ (all_small n k) h in
    let h6 = both_true _ (siblings_legal K n [] (always n) k) h7.0 in
    let h4 = both_true _ (leb (nodes k) 1024) h6.0 in
    let h3 = both_true _ (same s (write_times (always n))) h4.0 in
    let h2 = both_true _ (leb n 999) h3.0 in
    let h1 = both_true (is_end r) (leb 1 n) h2.0 in
    record {
      alone = h1.0;
      outer = and_both _ _ (and_both _ _ h1.1 h2.1) h3.1;
      inside = and_both _ _ (and_both _ _ h4.1 h6.1) h7.1;
    }

whole-told : (K : KeyList) (s : Bytes) (k r : Forest) → Whole K s k r → forest_legal K (stamp s k r) ≡ true
unfolding forest_legal is_outer inside_legal
whole-told K s k r w =
    let n = last_number s in
    let o2 = both_true _ (same s (write_times (always n))) w.outer in
    let o1 = both_true (leb 1 n) (leb n 999) o2.0 in
    let i3 = both_true _ (all_small n k) w.inside in
    let i2 = both_true _ (siblings_legal K n [] (always n) k) i3.0 in
    and_both _ _ (and_both _ _ (and_both _ _ (and_both _ _ (and_both _ _ (and_both _ _ w.alone o1.0) o1.1) o2.1) i2.0) i2.1) i3.1

-- a law for each test of the inside
module _ (K : KeyList) (n : ℕ) (k : Forest) where
  pub inside-many : 1024 < nodes k → inside_legal K n k ≡ false
  unfolding inside_legal
  inside-many l = rw (lt-leb (nodes k) 1024 l) refl

  pub inside-unlawful : siblings_legal K n [] (always n) k ≡ false → inside_legal K n k ≡ false
  unfolding inside_legal
  inside-unlawful e = not_so (leb (nodes k) 1024 && siblings_legal K n [] (always n) k && all_small n k) (λ h.
      clash (sym (and_right (leb (nodes k) 1024) (siblings_legal K n [] (always n) k) (and_left _ (all_small n k) h)) ∙ e))

  pub inside-rest : nodes k ≤ 1024 → siblings_legal K n [] (always n) k ≡ true → inside_legal K n k ≡ all_small n k
  unfolding inside_legal
  inside-rest l d = rw (le-leb (nodes k) 1024 l, d) refl

-- what the walk over the inside asks
pub inside-walk : {key_text : Bytes} {table : List ℕ} {paths : ℕ} {src cells : List ℕ} {lo hi : ℕ} → Tabled key_text table paths → Valid src cells lo hi
    → Walk key_text table paths 128 src cells lo hi
inside-walk t v = record { placed = record { key_list = t.keys; path = []; table = t.table; place_is = place-root t.keys }; valid = v }

-- the parts of a forest that is an outer `T`
outer-parts : (s : Bytes) (k r : Forest) → (outer_of (stamp s k r) ≡ 0 → ⊥) → (is_end r ≡ true) × (is_outer s ≡ true) × (outer_of (stamp s k r) ≡ last_number s)
unfolding outer_of
outer-parts s k r e =
    by-test (is_end r) (λ a. by-test (is_outer s) (λ o. (a, o, rw (a, outer_of) (outer-yes s o))) (λ o. absurd (e (rw (a, outer_of) (outer-no s o))))) (λ a. absurd (e (rw (a, outer_of))))

-- its n is at most 999
pub outer-of-most : (f : Forest) → outer_of f ≤ 999
unfolding outer_of
outer-of-most end = omega arith
outer-of-most (text b r) = omega arith
outer-of-most (elem m k r) = omega arith
outer-of-most (stamp s k r) = by-test (is_end r) (λ a. rw (a, outer_of) (outer-most s)) (λ a. rw (a, outer_of) (omega arith))

module _ (K : KeyList) where
  -- a legal archive has at most 1,024 nodes
  pub legal-few : (f : Forest) → forest_legal K f ≡ true → nodes f ≤ 1024
  unfolding nodes forest_legal inside_legal
  legal-few end h = clash (sym h)
  legal-few (text b r) h = clash (sym h)
  legal-few (elem m k r) h = clash (sym h)
  legal-few (stamp s k r) h =
      let w = whole_tells K s k r h in
      let n = last_number s in
      let i = and_left (leb (nodes k) 1024) (siblings_legal K n [] (always n) k) (and_left _ (all_small n k) w.inside) in
      let z : nodes r ≡ 0 = ap nodes (sole-end r w.alone) in
      omega (arith, leb-true (nodes k) 1024 i, z)

  -- and no element named T
  pub legal-named : (f : Forest) → forest_legal K f ≡ true → misnamed f ≡ 0
  unfolding misnamed forest_legal inside_legal
  legal-named end h = clash (sym h)
  legal-named (text b r) h = clash (sym h)
  legal-named (elem m k r) h = clash (sym h)
  legal-named (stamp s k r) h =
      let w = whole_tells K s k r h in
      let n = last_number s in
      let i = and_right (leb (nodes k) 1024) (siblings_legal K n [] (always n) k) (and_left _ (all_small n k) w.inside) in
      let z : misnamed r ≡ 0 = ap misnamed (sole-end r w.alone) in
      omega (arith, named-siblings K n [] (always n) k i, z)

  -- its last version is not 0
  some-last : (f : Forest) → forest_legal K f ≡ true → 1 ≤ last_version f
  unfolding forest_legal last_version
  some-last end h = clash (sym h)
  some-last (text b r) h = clash (sym h)
  some-last (elem m k r) h = clash (sym h)
  some-last (stamp s k r) h = (outer_tells s (whole_tells K s k r h).outer).0

  -- what the number tells
  pub whole-none : (f : Forest) → whole_last K f ≡ 0 → forest_legal K f ≡ false
  whole-none f e = not_so (forest_legal K f) (λ h. omega (arith, some-last f h, whole-yes K f h))

  pub whole-some : (f : Forest) → (whole_last K f ≡ 0 → ⊥) → (forest_legal K f ≡ true) × (whole_last K f ≡ last_version f)
  whole-some f e = by-test (forest_legal K f) (λ h. (h, whole-yes K f h)) (λ h. absurd (e (whole-no K f h)))

  -- ---- the number by the outer `T`, and by what it holds
  pub outer-zero : (f : Forest) → outer_of f ≡ 0 → whole_last K f ≡ 0
  unfolding outer_of forest_legal
  outer-zero end e = whole-no K end refl
  outer-zero (text b r) e = whole-no K (text b r) refl
  outer-zero (elem m k r) e = whole-no K (elem m k r) refl
  outer-zero (stamp s k r) e = whole-no K (stamp s k r) (not_so (forest_legal K (stamp s k r)) (λ h.
      let w = whole_tells K s k r h in
      let z : outer_last s ≡ 0 = rw (w.alone, outer_of) at e in
      omega (arith, (outer_tells s w.outer).0, outer-yes s w.outer, z)))

  pub inside-no : (f : Forest) → (outer_of f ≡ 0 → ⊥) → inside_legal K (outer_of f) (inside_of f) ≡ false → whole_last K f ≡ 0
  unfolding outer_of inside_of
  inside-no end e i = absurd (e refl)
  inside-no (text b r) e i = absurd (e refl)
  inside-no (elem m k r) e i = absurd (e refl)
  inside-no (stamp s k r) e i =
      let p = outer-parts s k r e in
      whole-no K (stamp s k r) (not_so (forest_legal K (stamp s k r)) (λ h. clash (sym (whole_tells K s k r h).inside ∙ ap (λ x. inside_legal K x k) (sym p.2) ∙ i)))

  pub inside-yes : (f : Forest) → (outer_of f ≡ 0 → ⊥) → inside_legal K (outer_of f) (inside_of f) ≡ true → whole_last K f ≡ outer_of f
  unfolding outer_of inside_of last_version
  inside-yes end e i = absurd (e refl)
  inside-yes (text b r) e i = absurd (e refl)
  inside-yes (elem m k r) e i = absurd (e refl)
  inside-yes (stamp s k r) e i =
      let p = outer-parts s k r e in
      let w : Whole K s k r = record { alone = p.0; outer = p.1; inside = ap (λ x. inside_legal K x k) (sym p.2) ∙ i } in
      whole-yes K (stamp s k r) (whole-told K s k r w) ∙ sym p.2

-- ---- on the tape
module _ {src cells : List ℕ} where
  pub outer-none : {p q : ℕ} {f : Forest} → Tape src cells p q f → q ≤ p → outer_of f ≡ 0
  unfolding outer_of
  outer-none (at-end e) l = refl
  outer-none (at-text d u e r) l = refl
  outer-none (at-elem d k r) l = refl
  outer-none (at-stamp d k r) l = absurd (omega (arith, tape-le k, tape-le r))

  -- the first node is no `T`
  pub outer-not : {p q : ℕ} {f : Forest} → Tape src cells p q f → (head_at cells p % 4 ≡ 2 → ⊥) → outer_of f ≡ 0
  unfolding outer_of
  outer-not (at-end e) h = refl
  outer-not (at-text d u e r) h = refl
  outer-not (at-elem d k r) h = refl
  outer-not (at-stamp d k r) h = absurd (h d.kind-is)

  -- it does not hold all the others
  pub outer-more : {p q : ℕ} {f : Forest} → Tape src cells p q f → (next_at cells p ≡ q → ⊥) → outer_of f ≡ 0
  unfolding outer_of is_end
  outer-more (at-end e) h = refl
  outer-more (at-text d u e r) h = refl
  outer-more (at-elem d k r) h = refl
  outer-more (at-stamp d k (at-end e)) h = absurd (h e)
  outer-more (at-stamp d k (at-text i u e r)) h = refl
  outer-more (at-stamp d k (at-elem i j r)) h = refl
  outer-more (at-stamp d k (at-stamp i j r)) h = refl

  -- it is a `T` that does
  pub outer-is : {p q : ℕ} {f : Forest} → Tape src cells p q f → p < q → head_at cells p % 4 ≡ 2 → next_at cells p ≡ q → outer_of f ≡ outer_last (bytes_at src cells p)
  unfolding outer_of is_end
  outer-is (at-end e) l k h = absurd (omega arith)
  outer-is (at-text d u e r) l k h = absurd (omega (arith, d.kind-is))
  outer-is (at-elem d i r) l k h = absurd (omega (arith, d.kind-is))
  outer-is (at-stamp d i r) l k h = let z = tape-none (rw h at r) in rw (z, outer_of) (ap outer_last (sym d.bytes-are))

  -- its inside
  pub outer-inside : {p q : ℕ} {f : Forest} → Tape src cells p q f → (outer_of f ≡ 0 → ⊥) → Tape src cells (p + 1) q (inside_of f)
  unfolding outer_of inside_of is_end
  outer-inside (at-end e) h = absurd (h refl)
  outer-inside (at-text d u e r) h = absurd (h refl)
  outer-inside (at-elem d k r) h = absurd (h refl)
  outer-inside (at-stamp d k (at-end e)) h = rw e at k
  outer-inside (at-stamp d k (at-text i u e r)) h = absurd (h refl)
  outer-inside (at-stamp d k (at-elem i j r)) h = absurd (h refl)
  outer-inside (at-stamp d k (at-stamp i j r)) h = absurd (h refl)
