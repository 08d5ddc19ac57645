-- The contents of a frontier, each in a `T` of its own: in a legal archive no version has two of them.
use Prim.Native.Nat.{ℕ, zero, suc, ◌<◌}
use Rattle.std.specs.Prelude.{◌≡◌, Bool, ◌&&◌, ◌||◌, length, get_or}
use Rattle.std.proofs.Math.Path.{refl, sym}
use Rattle.std.proofs.Common.{◌∙◌, ap}
use Rattle.std.proofs.Math.Bool.{true, false, not, and-false}
use Rattle.std.proofs.Math.Option.{some}
use mathlib.Core.List.{[], ◌∷◌}
use borrow.Author.Tests.{not-true}
use Rattle.std.proofs.Math.Dec.{leb}
use Rattle.xml.specs.Bytes.{Bytes, bytes, same, all}
use Rattle.xml.specs.Forest.{Forest, end, elem, text, stamp, join, same_forest}
use Rattle.xml.specs.Truth.{by-test, clash, both_true, or-both, or-second}
use Rattle.keys.specs.KeyList.{Path, KeyList, listed, above, key_names_at}
use Rattle.keys.specs.Version.{◌▸◌, label, called, is_one_value}
use Rattle.keys.specs.Legal.{untimed}
use Rattle.timestamp.specs.Times.{Times, same_times, belongs}
use Rattle.versions.specs.Walk.{times_in, canonical, ever, within, disjoint, earlier, branches_in, all_timed, apart, contents_apart, together, front_legal, is_sole, first_label, precedes, siblings_legal}
use Rattle.legality.specs.Layered.{times-at}

-- version v has a content among these siblings: a `T` around anything but one element
unfoldable pub has_content : ℕ → Forest → Bool
has_content v end = false
has_content v (text b r) = has_content v r
has_content v (elem m k r) = has_content v r
has_content v (stamp s k r) = not (is_sole k) && belongs v s || has_content v r

-- and no siblings, at any depth, have two of version v
abbrev pub Parted : ℕ → Forest → Type 0
Parted v end = Unit {0}
Parted v (text b r) = Parted v r
Parted v (elem m k r) = Parted v k × Parted v r
Parted v (stamp s k r) = ((not (is_sole k) && belongs v s) ≡ true → has_content v r ≡ false) × Parted v k × Parted v r

module _ (v : ℕ) where
  pub has_join : (f g : Forest) → has_content v (join f g) ≡ (has_content v f || has_content v g)
  unfolding has_content join
  has_join end g = refl
  has_join (text b r) g = has_join r g
  has_join (elem m k r) g = has_join r g
  has_join (stamp s k r) g = go (not (is_sole k) && belongs v s) (has_join r g)
    where
      go : (b : Bool) → has_content v (join r g) ≡ (has_content v r || has_content v g) → (b || has_content v (join r g)) ≡ (b || has_content v r || has_content v g)
      go true e = refl
      go false e = e

  pub parted-join : (f g : Forest) → Parted v (join f g) → Parted v f × Parted v g
  unfolding join
  parted-join end g h = (tt, h)
  parted-join (text b r) g h = parted-join r g h
  parted-join (elem m k r) g h = let z = parted-join r g h.1 in ((h.0, z.0), z.1)
  parted-join (stamp s k r) g h =
      let z = parted-join r g h.2 in (((λ e. first (has_content v r) (has_content v g) (sym (has_join r g) ∙ h.0 e)), h.1, z.0), z.1)
    where
      first : (a b : Bool) → (a || b) ≡ false → a ≡ false
      first true b e = e
      first false b e = refl

  -- the siblings before a content that version v has
  pub parted-last : (d : Forest) (s : Bytes) (k : Forest) → Parted v (join d (stamp s k end)) → is_sole k ≡ false → belongs v s ≡ true → has_content v d ≡ false
  unfolding has_content join
  parted-last end s k h e b = refl
  parted-last (text c r) s k h e b = parted-last r s k h e b
  parted-last (elem m j r) s k h e b = parted-last r s k h.1 e b
  parted-last (stamp u j r) s k h e b =
      by-test (not (is_sole j) && belongs v u)
      (λ x. clash (sym (has_join r (stamp s k end) ∙ or-second (has_content v r) (has_content v (stamp s k end)) (rw (e, b) refl)) ∙ h.0 x))
      (λ x. or-both (not (is_sole j) && belongs v u) (has_content v r) x (parted-last r s k h.2 e b))

-- ---- of a legal archive of n versions
module _ (n i : ℕ) (l : i < n) where
  untimed-parted : (f : Forest) → untimed f ≡ true → Parted (suc i) f
  unfolding untimed
  untimed-parted end u = tt
  untimed-parted (text b r) u = untimed-parted r u
  untimed-parted (elem m k r) u =
      let x = both_true (not (same m (bytes "T")) && untimed k) (untimed r) u in
      (untimed-parted k (both_true (not (same m (bytes "T"))) (untimed k) x.0).1, untimed-parted r x.1)
  untimed-parted (stamp s k r) u = clash (sym u)

  disjoint-at : (t u : Times) (j : ℕ) → disjoint t u ≡ true → get_or t j false ≡ true → get_or u j false ≡ false
  unfolding disjoint
  disjoint-at [] u j h e = clash (sym e)
  disjoint-at (a ∷ t) [] j h e = refl
  disjoint-at (a ∷ t) (b ∷ u) zero h e = not-true b (rw e at (both_true (not (a && b)) (disjoint t u) h).0)
  disjoint-at (a ∷ t) (b ∷ u) (suc j) h e = disjoint-at t u j (both_true (not (a && b)) (disjoint t u) h).1 e

  -- what is apart from a content of the version is not of the version
  apart_none : (t : Times) (f r : Forest) → all_timed n r ≡ true → apart t f (branches_in n r) ≡ true → get_or t i false ≡ true → has_content (suc i) r ≡ false
  unfolding all_timed branches_in apart has_content
  apart_none t f end a h e = refl
  apart_none t f (text b r) a h e = clash (sym a)
  apart_none t f (elem m k r) a h e = clash (sym a)
  apart_none t f (stamp s k r) a h e =
      let h3 = both_true _ (apart t f (branches_in n r)) h in
      let h2 = both_true _ (earlier t (times_in n s)) h3.0 in
      let h1 = both_true (not (same_forest k f)) (disjoint t (times_in n s)) h2.0 in
      let z : belongs (suc i) s ≡ false = sym (times-at n s i l) ∙ disjoint-at t (times_in n s) i h1.1 e in
      or-both (not (is_sole k) && belongs (suc i) s) (has_content (suc i) r) (rw z (and-false (not (is_sole k)))) (apart_none t f r (both_true (canonical n s && untimed k) (all_timed n r) a).1 h3.1 e)

  branches-parted : (f : Forest) → all_timed n f ≡ true → contents_apart (branches_in n f) ≡ true → Parted (suc i) f
  unfolding all_timed branches_in contents_apart
  branches-parted end a c = tt
  branches-parted (text b r) a c = clash (sym a)
  branches-parted (elem m k r) a c = clash (sym a)
  branches-parted (stamp s k r) a c =
      let a2 = both_true (canonical n s && untimed k) (all_timed n r) a in
      let c2 = both_true (ever (times_in n s) && apart (times_in n s) k (branches_in n r)) (contents_apart (branches_in n r)) c in
      let c1 = both_true (ever (times_in n s)) (apart (times_in n s) k (branches_in n r)) c2.0 in (
        (λ e. apart_none (times_in n s) k r a2.1 c1.1 (times-at n s i l ∙ (both_true (not (is_sole k)) (belongs (suc i) s) e).1)),
        untimed-parted k (both_true (canonical n s) (untimed k) a2.0).1,
        branches-parted r a2.1 c2.1,
      )

  front-parted : (t : Times) (f : Forest) → front_legal n t f ≡ true → Parted (suc i) f
  unfolding front_legal
  front-parted t end h = tt
  front-parted t (text b r) h = untimed-parted (text b r) h
  front-parted t (elem m k r) h = untimed-parted (elem m k r) h
  front-parted t (stamp s k r) h =
      let f = stamp s k r in
      let g = branches_in n f in
      let h2 = both_true (all_timed n f && leb 2 (length g) && contents_apart g) (same_times (together g) t) h in
      let h1 = both_true (all_timed n f && leb 2 (length g)) (contents_apart g) h2.0 in
      branches-parted f (both_true (all_timed n f) (leb 2 (length g)) h1.0).0 h1.1

  pub siblings-parted : (K : KeyList) (p : Path) (t : Times) (f : Forest) → siblings_legal K n p t f ≡ true → Parted (suc i) f
  unfolding siblings_legal
  siblings-parted K p t end h = tt
  siblings-parted K p t (text b r) h = clash (sym h)
  siblings-parted K p t (elem m k r) h =
      let h4 = both_true _ (siblings_legal K n p t r) h in
      let h3 = both_true _ (precedes (some (label K p m k)) (first_label K p r)) h4.0 in
      let h2 = both_true (listed K (p ▸ m) && not (same m (bytes "T"))) _ h3.0 in
      (within-element (above K (p ▸ m)) (λ x. siblings-parted K (p ▸ m) t k x) h2.1, siblings-parted K p t r h4.1)
    where
      within-element : (b : Bool) → (siblings_legal K n (p ▸ m) t k ≡ true → Parted (suc i) k)
          → elim b as (λ _. Bool) [ true ↦ all (λ key. is_one_value (called key k)) (key_names_at K (p ▸ m)) && siblings_legal K n (p ▸ m) t k | false ↦ front_legal n t k ] ≡ true → Parted (suc i) k
      within-element true ih e = ih (both_true (all (λ key. is_one_value (called key k)) (key_names_at K (p ▸ m))) (siblings_legal K n (p ▸ m) t k) e).1
      within-element false ih e = front-parted t k e
  siblings-parted K p t (stamp s k r) h =
      let u = times_in n s in
      let h7 = both_true _ (siblings_legal K n p t r) h in
      let h6 = both_true _ (precedes (first_label K p k) (first_label K p r)) h7.0 in
      let h5 = both_true _ (siblings_legal K n p u k) h6.0 in
      let h4 = both_true _ (not (same_times u t)) h5.0 in
      let h3 = both_true _ (within u t) h4.0 in
      let h2 = both_true _ (ever u) h3.0 in
      let h1 = both_true (is_sole k) (canonical n s) h2.0 in
      ((λ e. clash (sym (sym (ap not h1.0) ∙ (both_true (not (is_sole k)) (belongs (suc i) s) e).0))), siblings-parted K p u k h5.1, siblings-parted K p t r h7.1)
