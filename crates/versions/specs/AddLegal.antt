-- The siblings of a legal archive, and those of a legal version, are such as a program can add.
use Rattle.std.specs.Prelude.{ℕ, ◌≡◌, refl, Bool, true, false, not, ◌&&◌, ◌||◌, [], leb, length}
use Rattle.std.proofs.Common.{sym, ◌∙◌, ap}
use Rattle.std.proofs.Math.Option.{some}
use Rattle.xml.specs.Bytes.{Bytes, bytes, all, same}
use Rattle.xml.specs.Forest.{Forest, end, elem, text, stamp}
use Rattle.xml.specs.Read.{is_end}
use Rattle.xml.specs.Truth.{clash, and_left, and_right, and_both, or_left, or_right}
use Rattle.keys.specs.KeyList.{Path, KeyList, listed, above, key_names_at, rules_kept}
use Rattle.keys.specs.KeyListLaws.{front-bare}
use Rattle.keys.specs.Version.{◌▸◌, called, is_one_value, label, misplaced, unkeyed}
use Rattle.keys.specs.Legal.{LegalVersion, untimed}
use Rattle.keys.specs.Labelled.{has_keys}
use Rattle.keys.specs.PlaceLaws.{place-top}
use Rattle.timestamp.specs.Times.{Times, same_times}
use Rattle.versions.specs.Walk.{times_in, canonical, ever, within, branches_in, all_timed, apart, contents_apart, together, front_legal, is_sole, first_label, precedes, siblings_legal}
use Rattle.versions.specs.AddParts.{LegalSet, BranchesIn, no-branch, branch, FrontIn, SiblingsIn, no-sibling, bare, timed, VersionIn, no-element, element}

-- ---- the archive's
branches-in : (n : ℕ) (f : Forest) → all_timed n f ≡ true → contents_apart (branches_in n f) ≡ true → BranchesIn n f
unfolding all_timed branches_in contents_apart
branches-in n end e a = no-branch
branches-in n (text b r) e a = clash (sym e)
branches-in n (elem m k r) e a = clash (sym e)
branches-in n (stamp s k r) e a =
    branch (and_both (canonical n s) (ever (times_in n s)) (and_left (canonical n s) (untimed k) (and_left (canonical n s && untimed k) (all_timed n r) e))
    (and_left (ever (times_in n s)) (apart (times_in n s) k (branches_in n r)) (and_left (ever (times_in n s) && apart (times_in n s) k (branches_in n r)) (contents_apart (branches_in n r)) a)))
    (branches-in n r (and_right (canonical n s && untimed k) (all_timed n r) e) (and_right (ever (times_in n s) && apart (times_in n s) k (branches_in n r)) (contents_apart (branches_in n r)) a))

pub front-in : (n : ℕ) (t : Times) (f : Forest) → front_legal n t f ≡ true → FrontIn n f
unfolding front_legal
front-in n t end e = tt
front-in n t (text b r) e = tt
front-in n t (elem m k r) e = tt
front-in n t (stamp s k r) e =
    let f : Forest = stamp s k r in
    let a : ((all_timed n f && leb 2 (length (branches_in n f))) && contents_apart (branches_in n f)) ≡ true = and_left _ (same_times (together (branches_in n f)) t) e in
    branches-in n f (and_left (all_timed n f) (leb 2 (length (branches_in n f))) (and_left (all_timed n f && leb 2 (length (branches_in n f))) (contents_apart (branches_in n f)) a))
    (and_right (all_timed n f && leb 2 (length (branches_in n f))) (contents_apart (branches_in n f)) a)

-- what an element of path q holds
held_in : (K : KeyList) (n : ℕ) (q : Path) (t : Times) (k : Forest) (b : Bool) → above K q ≡ b
    → elim b as (λ _. Bool) [ true ↦ all (λ key. is_one_value (called key k)) (key_names_at K q) && siblings_legal K n q t k | false ↦ front_legal n t k ] ≡ true
    → (siblings_legal K n q t k ≡ true → SiblingsIn K n q k)
    → (has_keys (key_names_at K q) k ≡ true) × (above K q ≡ true → SiblingsIn K n q k) × (above K q ≡ false → FrontIn n k)
unfolding all
held_in K n q t k true i h ih =
    (and_left (has_keys (key_names_at K q) k) (siblings_legal K n q t k) h, λ _. ih (and_right (has_keys (key_names_at K q) k) (siblings_legal K n q t k) h), λ x. clash (sym i ∙ x))
held_in K n q t k false i h ih = (ap (λ ns. has_keys ns k) (front-bare K q i), λ x. clash (sym x ∙ i), λ _. front-in n t k h)

-- one element in its own `T`
sole-timed : {K : KeyList} {n : ℕ} {p : Path} {s : Bytes} {k r : Forest} → is_sole k ≡ true → LegalSet n s → SiblingsIn K n p k → SiblingsIn K n p r → SiblingsIn K n p (stamp s k r)
unfolding is_sole is_end
sole-timed e c no-sibling o = clash (sym e)
sole-timed e c (bare h x g no-sibling) o = timed c h x g o
sole-timed e c (bare h x g (bare h' x' g' o')) o = clash (sym e)
sole-timed e c (bare h x g (timed c' h' x' g' o')) o = clash (sym e)
sole-timed e c (timed c' h x g y) o = clash (sym e)

five : (a b c d e : Bool) → (a && b && c && d && e) ≡ true → (c ≡ true) × (e ≡ true)
five a b c d e h = (and_right (a && b) c (and_left (a && b && c) d (and_left (a && b && c && d) e h)), and_right (a && b && c && d) e h)

eight : (a b c d e f g i : Bool) → (a && b && c && d && e && f && g && i) ≡ true → (a ≡ true) × ((b && c) ≡ true) × (f ≡ true) × (i ≡ true)
eight a b c d e f g i h =
    let x = and_left (a && b && c && d && e && f) g (and_left (a && b && c && d && e && f && g) i h) in
    let y = and_left (a && b && c) d (and_left (a && b && c && d) e (and_left (a && b && c && d && e) f x)) in
    let z = and_left (a && b) c y in
    (and_left a b z, and_both b c (and_right a b z) (and_right (a && b) c y), and_right (a && b && c && d && e) f x, and_right (a && b && c && d && e && f && g) i h)

pub siblings-in : (K : KeyList) (n : ℕ) (p : Path) (t : Times) (f : Forest) → siblings_legal K n p t f ≡ true → SiblingsIn K n p f
unfolding siblings_legal
siblings-in K n p t end e = no-sibling
siblings-in K n p t (text b r) e = clash (sym e)
siblings-in K n p t (elem m k r) e =
    let x = five (listed K (p ▸ m)) (not (same m (bytes "T"))) _ (precedes (some (label K p m k)) (first_label K p r)) (siblings_legal K n p t r) e in
    let h = held_in K n (p ▸ m) t k (above K (p ▸ m)) refl x.0 (siblings-in K n (p ▸ m) t k) in
    bare h.0 h.1 h.2 (siblings-in K n p t r x.1)
siblings-in K n p t (stamp s k r) e =
    let x = eight (is_sole k) (canonical n s) (ever (times_in n s)) (within (times_in n s) t) (not (same_times (times_in n s) t)) (siblings_legal K n p (times_in n s) k) (precedes (first_label K p k) (first_label K p r)) (siblings_legal K n p t r) e in
    sole-timed x.0 x.1 (siblings-in K n p (times_in n s) k x.2) (siblings-in K n p t r x.3)

-- ---- the version's
four-or : (a b c d : Bool) → (a || b || c || d) ≡ false → (a ≡ false) × (c ≡ false) × (d ≡ false)
four-or a b c d h =
    (or_left a b (or_left (a || b) c (or_left (a || b || c) d h)), or_right (a || b) c (or_left (a || b || c) d h), or_right (a || b || c) d h)

three-or : (a b c : Bool) → (a || b || c) ≡ false → (a ≡ false) × (b ≡ false) × (c ≡ false)
three-or a b c h = (or_left a b (or_left (a || b) c h), or_right a b (or_left (a || b) c h), or_right (a || b) c h)

placed-untimed : (K : KeyList) (p : Path) (f : Forest) → misplaced K p f ≡ false → untimed f ≡ true
unfolding misplaced untimed
placed-untimed K p end e = refl
placed-untimed K p (text b r) e = placed-untimed K p r (or_right (above K p) (misplaced K p r) e)
placed-untimed K p (elem m k r) e =
    let x = four-or (same m (bytes "T")) (above K p && not (listed K (p ▸ m))) (misplaced K (p ▸ m) k) (misplaced K p r) e in
    and_both _ _ (and_both _ _ (ap not x.0) (placed-untimed K (p ▸ m) k x.1)) (placed-untimed K p r x.2)
placed-untimed K p (stamp s k r) e = clash e

pub version-in : (K : KeyList) (p : Path) (v : Forest) → above K p ≡ true → misplaced K p v ≡ false → unkeyed K p v ≡ false → VersionIn K p v
unfolding misplaced unkeyed untimed
version-in K p end a e h = no-element
version-in K p (text b r) a e h = clash (sym a ∙ or_left (above K p) (misplaced K p r) e)
version-in K p (elem m k r) a e h =
    let x = four-or (same m (bytes "T")) (above K p && not (listed K (p ▸ m))) (misplaced K (p ▸ m) k) (misplaced K p r) e in
    let y = three-or (not (has_keys (key_names_at K (p ▸ m)) k)) (unkeyed K (p ▸ m) k) (unkeyed K p r) h in
    element (and_both _ _ (and_both _ _ (ap not x.0) (placed-untimed K (p ▸ m) k x.1)) refl) (so (has_keys (key_names_at K (p ▸ m)) k) y.0)
    (λ z. version-in K (p ▸ m) k z x.1 y.1) (version-in K p r a x.2 y.2)
  where
    so : (b : Bool) → not b ≡ false → b ≡ true
    so true x = refl
    so false x = clash x
version-in K p (stamp s k r) a e h = clash e

pub legal-version-in : (K : KeyList) (v : Forest) → rules_kept K ≡ true → LegalVersion K v → VersionIn K [] v × (untimed v ≡ true)
legal-version-in K v u g = (version-in K [] v (place-top K u) g.placed g.keyed, placed-untimed K [] v g.placed)
