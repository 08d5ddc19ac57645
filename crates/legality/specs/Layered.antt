-- The `T`s of a legal archive: each has a set that is not empty and lies in the one around it. So the sizes of Sizes.antt are those of
-- its versions, and some version is as deep as the archive.
use Rattle.std.specs.Prelude.{ℕ, zero, suc, ◌+◌, ◌-◌, ◌≤◌, ◌<◌, max, ◌≡◌, Bool, ◌&&◌, ◌||◌, [], ◌∷◌, eqb, ltb, length}
use native.Mathlib.Omega.{arith}
use Rattle.std.proofs.Math.Path.{refl, ap}
use Rattle.std.proofs.Common.{sym, ◌∙◌, ap₂}
use Rattle.std.proofs.Math.Bool.{true, false, not, or-false}
use Rattle.std.proofs.Math.Option.{some}
use borrow.Author.Tests.{le-ltb, lt-ltb, leb-true, leb-false, ltb-true, eqb-true, eqb-false}
use Rattle.std.proofs.Math.Dec.{leb}
use Rattle.std.proofs.Math.ListN.{get_or}
use Rattle.xml.specs.Bytes.{Bytes, bytes, is_empty, same, all}
use Rattle.xml.specs.Forest.{Forest, end, elem, text, stamp, join, depth}
use Rattle.xml.specs.Read.{is_end}
use Rattle.xml.specs.Truth.{by-test, clash, both_true, and_left, and_right, and_both, or-first, or-second}
use Rattle.model.specs.Stored.{or_l}
use Rattle.keys.specs.KeyList.{Path, KeyList, listed, above, key_names_at}
use Rattle.keys.specs.Version.{◌▸◌, label, called, is_one_value}
use Rattle.keys.specs.Legal.{untimed}
use Rattle.timestamp.specs.Times.{Times, same_times, belongs}
use Rattle.timestamp.specs.TimesLaws.{times-is, bool_eq, or-by}
use Rattle.timestamp.specs.Runs.{get_d-from}
use Rattle.timestamp.specs.Listed.{text_of}
use Rattle.timestamp.specs.Parse.{Outcome, refused, accepted, numbers_in, parsed}
use Rattle.versions.specs.Archive.{pick}
use Rattle.versions.specs.Sizes.{Nested}
use Rattle.versions.specs.Walk.{times_in, canonical, ever, within, branches_in, all_timed, apart, contents_apart, together, front_legal, is_sole, first_label, precedes, siblings_legal}
use Rattle.versions.specs.ListedLaws.{ever-some}
use Rattle.versions.specs.LegalTexts.{fits, legal-text}
use Rattle.legality.specs.Measured.{stops, AllRead}
use Rattle.legality.specs.Raised.{Readable}

-- every version of t is one of u
abbrev pub Inside : Times → Times → Type 0
Inside t u = (i : ℕ) → get_or t i false ≡ true → get_or u i false ≡ true

-- the forest stands in the versions t, of n; w says whether straight in a `T`
abbrev pub Layered : ℕ → Bool → Times → Forest → Type 0
Layered n w t end = Unit {0}
Layered n w t (text b r) = Layered n w t r
Layered n w t (elem m k r) = Layered n false t k × Layered n w t r
Layered n w t (stamp s k r) = ((canonical n s && ever (times_in n s)) ≡ true) × Inside (times_in n s) t × Layered n true (times_in n s) k × Layered n w t r × (w ≡ false)

-- ---- of a legal archive
within-inside : (t u : Times) → within t u ≡ true → Inside t u
unfolding within
within-inside [] u h i e = clash (sym e)
within-inside (a ∷ t) [] h i e = clash (sym h)
within-inside (a ∷ t) (b ∷ u) h zero e = one a b (and_left (not a || b) (within t u) h) e
  where
    one : (a b : Bool) → (not a || b) ≡ true → a ≡ true → b ≡ true
    one true b p q = p
    one false b p q = clash (sym q)
within-inside (a ∷ t) (b ∷ u) h (suc i) e = within-inside t u (and_right (not a || b) (within t u) h) i e

get_d-or : (t u : Times) (i : ℕ) → get_or (or_l t u) i false ≡ (get_or t i false || get_or u i false)
unfolding or_l
get_d-or [] u i = refl
get_d-or (a ∷ t) [] zero = sym (or-false a)
get_d-or (a ∷ t) [] (suc i) = sym (or-false (get_or t i false))
get_d-or (a ∷ t) (b ∷ u) zero = refl
get_d-or (a ∷ t) (b ∷ u) (suc i) = get_d-or t u i

module _ (n : ℕ) where
  untimed-layered : (w : Bool) (t : Times) (f : Forest) → untimed f ≡ true → Layered n w t f
  unfolding untimed
  untimed-layered w t end u = tt
  untimed-layered w t (text b r) u = untimed-layered w t r u
  untimed-layered w t (elem m k r) u =
      let v = and_left (not (same m (bytes "T")) && untimed k) (untimed r) u in
      (untimed-layered false t k (and_right (not (same m (bytes "T"))) (untimed k) v), untimed-layered w t r (and_right (not (same m (bytes "T")) && untimed k) (untimed r) u))
  untimed-layered w t (stamp s k r) u = clash (sym u)

  branches-layered : (t : Times) (f : Forest) → all_timed n f ≡ true → contents_apart (branches_in n f) ≡ true → Inside (together (branches_in n f)) t → Layered n false t f
  unfolding all_timed branches_in contents_apart together
  branches-layered t end a c h = tt
  branches-layered t (text b r) a c h = clash (sym a)
  branches-layered t (elem m k r) a c h = clash (sym a)
  branches-layered t (stamp s k r) a c h =
      let a1 = and_left (canonical n s && untimed k) (all_timed n r) a in
      let c1 = and_left (ever (times_in n s) && apart (times_in n s) k (branches_in n r)) (contents_apart (branches_in n r)) c in (
        and_both (canonical n s) (ever (times_in n s)) (and_left (canonical n s) (untimed k) a1) (and_left (ever (times_in n s)) (apart (times_in n s) k (branches_in n r)) c1),
        (λ i e. h i (get_d-or (times_in n s) (together (branches_in n r)) i ∙ or-first (get_or (times_in n s) i false) (get_or (together (branches_in n r)) i false) e)),
        untimed-layered true (times_in n s) k (and_right (canonical n s) (untimed k) a1),
        branches-layered t r (and_right (canonical n s && untimed k) (all_timed n r) a)
            (and_right (ever (times_in n s) && apart (times_in n s) k (branches_in n r)) (contents_apart (branches_in n r)) c)
            (λ i e. h i (get_d-or (times_in n s) (together (branches_in n r)) i ∙ or-second (get_or (times_in n s) i false) (get_or (together (branches_in n r)) i false) e)),
        refl,
      )

  front-layered : (t : Times) (f : Forest) → front_legal n t f ≡ true → Layered n false t f
  unfolding front_legal
  front-layered t end h = tt
  front-layered t (text b r) h = untimed-layered false t (text b r) h
  front-layered t (elem m k r) h = untimed-layered false t (elem m k r) h
  front-layered t (stamp s k r) h =
      let f = stamp s k r in
      let g = branches_in n f in
      let h2 = and_left (all_timed n f && leb 2 (length g) && contents_apart g) (same_times (together g) t) h in
      let e : together g ≡ t = times-is (together g) t (and_right (all_timed n f && leb 2 (length g) && contents_apart g) (same_times (together g) t) h) in
      branches-layered t f (and_left (all_timed n f) (leb 2 (length g)) (and_left (all_timed n f && leb 2 (length g)) (contents_apart g) h2))
      (and_right (all_timed n f && leb 2 (length g)) (contents_apart g) h2) (λ i x. ap (λ (u : Times). get_or u i false) (sym e) ∙ x)

  -- one element alone is no `T`
  sole-layered : (t : Times) (f : Forest) → is_sole f ≡ true → Layered n false t f → Layered n true t f
  unfolding is_sole is_end
  sole-layered t end e h = clash (sym e)
  sole-layered t (text b r) e h = clash (sym e)
  sole-layered t (elem m k end) e h = (h.0, tt)
  sole-layered t (elem m k (text b r)) e h = clash (sym e)
  sole-layered t (elem m k (elem o j r)) e h = clash (sym e)
  sole-layered t (elem m k (stamp s j r)) e h = clash (sym e)
  sole-layered t (stamp s k r) e h = clash (sym e)

  pub siblings-layered : (K : KeyList) (p : Path) (t : Times) (f : Forest) → siblings_legal K n p t f ≡ true → Layered n false t f
  unfolding siblings_legal
  siblings-layered K p t end h = tt
  siblings-layered K p t (text b r) h = clash (sym h)
  siblings-layered K p t (elem m k r) h =
      let h4 = both_true _ (siblings_legal K n p t r) h in
      let h3 = both_true _ (precedes (some (label K p m k)) (first_label K p r)) h4.0 in
      let h2 = both_true (listed K (p ▸ m) && not (same m (bytes "T"))) _ h3.0 in
      (within-element (above K (p ▸ m)) (λ x. siblings-layered K (p ▸ m) t k x) h2.1, siblings-layered K p t r h4.1)
    where
      within-element : (b : Bool) → (siblings_legal K n (p ▸ m) t k ≡ true → Layered n false t k)
          → elim b as (λ _. Bool) [ true ↦ all (λ key. is_one_value (called key k)) (key_names_at K (p ▸ m)) && siblings_legal K n (p ▸ m) t k | false ↦ front_legal n t k ] ≡ true → Layered n false t k
      within-element true ih e = ih (and_right (all (λ key. is_one_value (called key k)) (key_names_at K (p ▸ m))) (siblings_legal K n (p ▸ m) t k) e)
      within-element false ih e = front-layered t k e
  siblings-layered K p t (stamp s k r) h =
      let v = times_in n s in
      let h7 = both_true _ (siblings_legal K n p t r) h in
      let h6 = both_true _ (precedes (first_label K p k) (first_label K p r)) h7.0 in
      let h5 = both_true _ (siblings_legal K n p v k) h6.0 in
      let h4 = both_true _ (not (same_times v t)) h5.0 in
      let h3 = both_true _ (within v t) h4.0 in
      let h2 = both_true _ (ever v) h3.0 in
      let h1 = both_true (is_sole k) (canonical n s) h2.0 in
      (and_both (canonical n s) (ever v) h1.1 h2.1, within-inside v t h3.1, sole-layered v k h1.0 (siblings-layered K p v k h5.1), siblings-layered K p t r h7.1, refl)

-- ---- where a `T` has a version, so have those around it
pub times-at : (n : ℕ) (s : Bytes) (i : ℕ) → i < n → get_or (times_in n s) i false ≡ belongs (suc i) s
unfolding times_in
times-at n s i l = let e : 1 + i ≡ suc i = omega arith in get_d-from (λ j. belongs j s) 1 n i l ∙ ap (λ (j : ℕ). belongs j s) e

pub layered-nested : (n : ℕ) (w : Bool) (t : Times) (f : Forest) (i : ℕ) → i < n → Layered n w t f → Nested (suc i) (get_or t i false) f
unfolding Nested
layered-nested n w t end i l h = tt
layered-nested n w t (text b r) i l h = layered-nested n w t r i l h
layered-nested n w t (elem m k r) i l h = (layered-nested n false t k i l h.0, layered-nested n w t r i l h.1)
layered-nested n w t (stamp s k r) i l h =
    ((λ e. h.1 i (times-at n s i l ∙ e)), rw (← times-at n s i l) (layered-nested n true (times_in n s) k i l h.2), layered-nested n w t r i l h.3)

-- ---- the walk stops just where elements lie too deep
max-ltb : (d a b : ℕ) → ltb d (max a b) ≡ (ltb d a || ltb d b)
max-ltb d a b =
    bool_eq (ltb d (max a b)) (ltb d a || ltb d b)
    (λ e. let l = ltb-true d (max a b) e in
    by-test (leb a b) (λ x. or-second (ltb d a) (ltb d b) (lt-ltb d b (omega (arith, leb-true a b x)))) (λ x. or-first (ltb d a) (ltb d b) (lt-ltb d a (omega (arith, leb-false a b x)))))
    (λ e. or-by (ltb d a) (ltb d b) e (λ x. lt-ltb d (max a b) (omega (arith, ltb-true d a x))) (λ x. lt-ltb d (max a b) (omega (arith, ltb-true d b x))))

suc-ltb : (d a : ℕ) → ltb d (1 + a) ≡ (eqb d 0 || ltb (d - 1) a)
suc-ltb d a =
    bool_eq (ltb d (1 + a)) (eqb d 0 || ltb (d - 1) a)
    (λ e. let l = ltb-true d (1 + a) e in
    by-test (eqb d 0) (λ x. or-first (eqb d 0) (ltb (d - 1) a) x) (λ x. or-second (eqb d 0) (ltb (d - 1) a) (lt-ltb (d - 1) a (omega (arith, eqb-false d 0 x)))))
    (λ e. or-by (eqb d 0) (ltb (d - 1) a) e (λ x. lt-ltb d (1 + a) (omega (arith, eqb-true d 0 x))) (λ x. lt-ltb d (1 + a) (omega (arith, ltb-true (d - 1) a x))))

text-readable : (n : ℕ) (s : Bytes) → n ≤ 999 → (canonical n s && ever (times_in n s)) ≡ true → Readable s
unfolding parsed
text-readable n s b h = go (not (is_empty s) && same s (text_of (numbers_in s))) (sym (legal-text n s b) ∙ h)
  where
    go : (q : Bool) → fits n (elim q as (λ _. Outcome) [ true ↦ accepted (numbers_in s) | false ↦ refused ]) ≡ true → elim q as (λ _. Outcome) [ true ↦ accepted (numbers_in s) | false ↦ refused ] ≡ accepted (numbers_in s)
    go true e = refl
    go false e = clash (sym e)

pub layered-read : (n : ℕ) (w : Bool) (t : Times) (f : Forest) → n ≤ 999 → Layered n w t f → AllRead f
layered-read n w t end b h = tt
layered-read n w t (text c r) b h = layered-read n w t r b h
layered-read n w t (elem m k r) b h = (layered-read n false t k b h.0, layered-read n w t r b h.1)
layered-read n w t (stamp s k r) b h = (text-readable n s b h.0, layered-read n true (times_in n s) k b h.2, layered-read n w t r b h.3)

pub layered-stops : (n : ℕ) (w : Bool) (t : Times) (f : Forest) (d : ℕ) → Layered n w t f → stops d w f ≡ ltb d (depth f)
unfolding stops depth
layered-stops n w t end d h = sym (le-ltb d 0 (omega arith))
layered-stops n w t (text c r) d h = layered-stops n w t r d h
layered-stops n w t (elem m k r) d h =
    ap₂ (λ (x y : Bool). eqb d 0 || x || y) (layered-stops n false t k (d - 1) h.0) (layered-stops n w t r d h.1)
    ∙ ap (λ (x : Bool). x || ltb d (depth r)) (sym (suc-ltb d (depth k))) ∙ sym (max-ltb d (1 + depth k) (depth r))
layered-stops n w t (stamp s k r) d h =
    ap (λ (x : Bool). x || stops d true k || stops d w r) h.4
    ∙ ap₂ (λ (x y : Bool). x || y) (layered-stops n true (times_in n s) k d h.2) (layered-stops n w t r d h.3) ∙ sym (max-ltb d (depth k) (depth r))

-- ---- no version is deeper, and some version is as deep
pub depth-join : (f g : Forest) → depth (join f g) ≡ max (depth f) (depth g)
unfolding depth join
depth-join end g = omega arith
depth-join (text b r) g = depth-join r g
depth-join (elem m k r) g = omega (arith, depth-join r g)
depth-join (stamp s k r) g = omega (arith, depth-join r g)

pub depth-pick : (i : ℕ) (f : Forest) → depth (pick i f) ≤ depth f
unfolding depth pick
depth-pick i end = omega arith
depth-pick i (text b r) = depth-pick i r
depth-pick i (elem m k r) = omega (arith, depth-pick i k, depth-pick i r)
depth-pick i (stamp s k r) = go (belongs i s) (depth-pick i k) (depth-pick i r)
  where
    go : (b : Bool) → depth (pick i k) ≤ depth k → depth (pick i r) ≤ depth r
        → depth (elim b as (λ _. Forest) [ true ↦ join (pick i k) (pick i r) | false ↦ pick i r ]) ≤ max (depth k) (depth r)
    go true a c = omega (arith, depth-join (pick i k) (pick i r))
    go false a c = omega arith

-- one of the versions t of n
pub record Member (n : ℕ) (t : Times) : Type 0 where
  pub place : ℕ
  pub below : place < n
  pub there : get_or t place false ≡ true

-- and the forest is as deep there
pub record Reached (n : ℕ) (t : Times) (f : Forest) : Type 0 where
  pub place : ℕ
  pub below : place < n
  pub there : get_or t place false ≡ true
  pub deep : depth f ≤ depth (pick (suc place) f)

ever-member : (n : ℕ) (s : Bytes) → ever (times_in n s) ≡ true → Member n (times_in n s)
unfolding times_in
ever-member n s e =
    let x = ever-some (λ j. belongs j s) 1 n e in
    let z : suc (x.0 - 1) ≡ x.0 = omega (arith, x.1) in
    let l : x.0 - 1 < n = omega (arith, x.1, x.2) in
    record { place = x.0 - 1; below = l; there = times-at n s (x.0 - 1) l ∙ ap (λ (j : ℕ). belongs j s) z ∙ x.3 }

-- of a `T`'s content and the siblings after it, in a version that it has
pick-in : (i : ℕ) (s : Bytes) (k r : Forest) → belongs i s ≡ true → depth (pick i (stamp s k r)) ≡ max (depth (pick i k)) (depth (pick i r))
unfolding pick
pick-in i s k r e = rw (e, pick) (depth-join (pick i k) (pick i r))

-- the siblings after it count in any version
pick-after : (i : ℕ) (s : Bytes) (k r : Forest) → depth (pick i r) ≤ depth (pick i (stamp s k r))
unfolding pick
pick-after i s k r = go (belongs i s)
  where
    go : (b : Bool) → depth (pick i r) ≤ depth (elim b as (λ _. Forest) [ true ↦ join (pick i k) (pick i r) | false ↦ pick i r ])
    go true = omega (arith, depth-join (pick i k) (pick i r))
    go false = omega arith

module _ (n : ℕ) where
  stamp-reached : (t : Times) (s : Bytes) (k r : Forest) → Inside (times_in n s) t → Reached n (times_in n s) k → Reached n t r → Reached n t (stamp s k r)
  unfolding depth
  stamp-reached t s k r h x y =
      by-test (leb (depth r) (depth k))
      (λ e. record {
        place = x.place;
        below = x.below;
        there = h x.place x.there;
        deep = omega (arith, leb-true (depth r) (depth k) e, x.deep, pick-in (suc x.place) s k r (sym (times-at n s x.place x.below) ∙ x.there));
      })
      (λ e. record { place = y.place; below = y.below; there = y.there; deep = omega (arith, leb-false (depth r) (depth k) e, y.deep, pick-after (suc y.place) s k r) })

  pub layered-reached : (w : Bool) (t : Times) (f : Forest) → Member n t → Layered n w t f → Reached n t f
  unfolding depth pick
  layered-reached w t end m h = record { place = m.place; below = m.below; there = m.there; deep = omega arith }
  layered-reached w t (text b r) m h =
      let x = layered-reached w t r m h in
      record { place = x.place; below = x.below; there = x.there; deep = x.deep }
  layered-reached w t (elem a k r) m h =
      let x = layered-reached false t k m h.0 in
      let y = layered-reached w t r m h.1 in
      by-test (leb (depth r) (1 + depth k))
      (λ e. record { place = x.place; below = x.below; there = x.there; deep = omega (arith, leb-true (depth r) (1 + depth k) e, x.deep) })
      (λ e. record { place = y.place; below = y.below; there = y.there; deep = omega (arith, leb-false (depth r) (1 + depth k) e, y.deep) })
  layered-reached w t (stamp s k r) m h =
      stamp-reached t s k r h.1 (layered-reached true (times_in n s) k (ever-member n s (and_right (canonical n s) (ever (times_in n s)) h.0)) h.2) (layered-reached w t r m h.3)
