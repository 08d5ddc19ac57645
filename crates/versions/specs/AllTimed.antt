-- A forest each of whose `T`s has the text of a set of the versions 1 to n that is not empty. That of a legal archive is one.
use Rattle.std.specs.Prelude.{ℕ, ◌≤◌, ◌≡◌, refl, Bool, ◌&&◌, length}
use Rattle.std.proofs.Common.{sym, ◌∙◌, leb-true}
use Rattle.std.proofs.Math.Path.{ap, subst}
use Rattle.std.proofs.Math.Bool.{true, false, not}
use Rattle.std.proofs.Math.Option.{some}
use mathlib.Core.List.{[], ◌∷◌}
use Rattle.std.proofs.Math.Dec.{leb}
use Rattle.model.specs.Masks.{clash, is_true}
use Rattle.model.specs.Keyed.{nil, node, any, WFBy}
use Rattle.model.specs.Orders.{labels}
use Rattle.model.specs.Groups.{Groups, WFG}
use Rattle.model.specs.Stored.{mask_g, length-mask_g, WFS}
use Rattle.xml.specs.Bytes.{Bytes, bytes, all, same}
use Rattle.xml.specs.BytesLaws.{same-is}
use Rattle.xml.specs.Forest.{Forest, end, elem, text, stamp, join, nodes}
use Rattle.xml.specs.Read.{is_end}
use Rattle.xml.specs.Truth.{bool_by, and_left, and_right, both_true}
use Rattle.keys.specs.KeyList.{Path, KeyList, above, listed, key_names_at}
use Rattle.keys.specs.Version.{◌▸◌, name_in, label, called, is_one_value}
use Rattle.keys.specs.Tree.{Content, inner, front, contents}
use Rattle.keys.specs.Legal.{untimed, Kind, Lawful}
use Rattle.timestamp.specs.Times.{Times, same_times, always, write_times, last_number}
use Rattle.versions.specs.Archive.{Archive, wrap, branches, holding, stamped, last_version}
use Rattle.versions.specs.Walk.{times_in, canonical, ever, within, branches_in, all_timed, contents_apart, apart, together, front_legal, is_sole, first_label, precedes, siblings_legal, all_small, forest_legal}
use Rattle.versions.specs.Lawful.{InnerEntry, FrontEntry, LawfulArchive}
use Rattle.versions.specs.SetLaws.{times_in-write, canonical-write, ever-any}
use Rattle.versions.specs.StampedLabels.{held_inner}
use Rattle.versions.specs.BackLaws.{length-always, any-always}

unfoldable pub AllTimed : ℕ → Forest → Type 0
AllTimed n end = Unit {0}
AllTimed n (text b r) = AllTimed n r
AllTimed n (elem m k r) = AllTimed n k × AllTimed n r
AllTimed n (stamp s k r) = (canonical n s ≡ true) × (ever (times_in n s) ≡ true) × AllTimed n k × AllTimed n r

pub timed-join : (n : ℕ) (f g : Forest) → AllTimed n (join f g) → AllTimed n f × AllTimed n g
unfolding AllTimed join
timed-join n end g h = (tt, h)
timed-join n (text b r) g h = timed-join n r g h
timed-join n (elem m k r) g h = let x = timed-join n r g h.1 in ((h.0, x.0), x.1)
timed-join n (stamp s k r) g h = let x = timed-join n r g h.3 in ((h.0, h.1, h.2, x.0), x.1)

-- content with no `T`
timed-front : (n : ℕ) (f : Forest) → untimed f ≡ true → AllTimed n f
unfolding AllTimed untimed
timed-front n end u = tt
timed-front n (text b r) u = timed-front n r u
timed-front n (stamp s k r) u = absurd (clash u refl)
timed-front n (elem m k r) u = (
  timed-front n k (and_right (not (same m (bytes "T"))) _ (and_left (not (same m (bytes "T")) && untimed k) _ u)),
  timed-front n r (and_right (not (same m (bytes "T")) && untimed k) _ u),
)

-- the text of a set
module _ (n : ℕ) (t : Times) (e : length t ≡ n) (m : n ≤ 999) (a : any t ≡ true) where
  timed-stamp : (k r : Forest) → AllTimed n k → AllTimed n r → AllTimed n (stamp (write_times t) k r)
  unfolding AllTimed
  timed-stamp k r x y = (canonical-write n t e m, ap ever (times_in-write n t e m) ∙ ever-any t ∙ a, x, y)

-- ---- the forest of a legal archive's tree
module _ (n : ℕ) (m : n ≤ 999) where
  timed-branches : (gs : Groups Content) → WFG contents n gs → FrontEntry gs → AllTimed n (branches gs)
  unfolding AllTimed branches WFG
  timed-branches [] w h = tt
  timed-branches ((t, inner) ∷ gs) w h = absurd h.0
  timed-branches ((t, front f) ∷ gs) w h =
      timed-stamp n t w.0 m (is_true (any t) w.1) f (branches gs) (timed-front n f h.0.1) (timed-branches gs w.3 h.1)

  timed-holding : (b : Bool) (gs : Groups Content) (k : Archive) (kids : Forest) → WFG contents n gs → Kind InnerEntry FrontEntry b gs k → AllTimed n kids → AllTimed n (holding gs kids)
  unfolding holding
  timed-holding true gs k kids w h t = subst (λ (f : Forest). AllTimed n f) (sym (held_inner n gs kids w h)) t
  timed-holding false [] k kids w h t = t
  timed-holding false ((t, inner) ∷ []) k kids w h z = z
  timed-holding false ((t, front f) ∷ []) k kids w h z = timed-front n f h.0.0.1
  timed-holding false (g ∷ j ∷ gs) k kids w h z = timed-branches (g ∷ j ∷ gs) w h.0

  pub timed-stamped : (K : KeyList) (p : Path) (parent : Times) (a : Archive) → WFS labels contents n a → LawfulArchive K n p a → AllTimed n (stamped n parent a)
  unfolding AllTimed stamped wrap WFBy Lawful
  timed-stamped K p parent nil w h = tt
  timed-stamped K p parent (node l gs k r) w h =
      let held = timed-holding (above K (p ▸ name_in l)) gs k _ w.0 h.3 (timed-stamped K (p ▸ name_in l) (mask_g n gs) k w.4 h.5) in
      let rest = timed-stamped K p parent r w.5 h.6 in
      bool_by (λ b. AllTimed n (elim b as (λ _. Forest) [
        | true ↦ elem (name_in l) (holding gs (stamped n (mask_g n gs) k)) (stamped n parent r)
        | false ↦ stamp (write_times (mask_g n gs)) (elem (name_in l) (holding gs (stamped n (mask_g n gs) k)) end) (stamped n parent r)
      ])) (same_times parent (mask_g n gs)) (λ _. (held, rest))
      (λ _. timed-stamp n (mask_g n gs) (length-mask_g contents n gs w.0) m (is_true (any (mask_g n gs)) w.1) (elem (name_in l) (holding gs (stamped n (mask_g n gs) k)) end) (stamped n parent r) (held, tt) rest)

-- ---- a forest that is legal by what a program checks on it
module _ (n : ℕ) where
  timed-contents : (f : Forest) → all_timed n f ≡ true → contents_apart (branches_in n f) ≡ true → AllTimed n f
  unfolding AllTimed all_timed branches_in contents_apart
  timed-contents end h g = tt
  timed-contents (text b r) h g = absurd (clash h refl)
  timed-contents (elem m k r) h g = absurd (clash h refl)
  timed-contents (stamp s k r) h g =
      let a = and_left (canonical n s && untimed k) (all_timed n r) h in
      let b = and_left (ever (times_in n s) && apart (times_in n s) k (branches_in n r)) (contents_apart (branches_in n r)) g in (
        and_left (canonical n s) (untimed k) a,
        and_left (ever (times_in n s)) (apart (times_in n s) k (branches_in n r)) b,
        timed-front n k (and_right (canonical n s) (untimed k) a),
        timed-contents r (and_right (canonical n s && untimed k) (all_timed n r) h)
            (and_right (ever (times_in n s) && apart (times_in n s) k (branches_in n r)) (contents_apart (branches_in n r)) g),
      )

  timed-held : (t : Times) (f : Forest) → front_legal n t f ≡ true → AllTimed n f
  unfolding AllTimed front_legal
  timed-held t end h = tt
  timed-held t (text b r) h = timed-front n (text b r) h
  timed-held t (elem m k r) h = timed-front n (elem m k r) h
  timed-held t (stamp s k r) h =
      let f = stamp s k r in
      let a : (all_timed n f && leb 2 (length (branches_in n f)) && contents_apart (branches_in n f)) ≡ true = and_left _ (same_times (together (branches_in n f)) t) h in
      timed-contents f (and_left (all_timed n f) (leb 2 (length (branches_in n f))) (and_left (all_timed n f && leb 2 (length (branches_in n f))) (contents_apart (branches_in n f)) a))
      (and_right (all_timed n f && leb 2 (length (branches_in n f))) (contents_apart (branches_in n f)) a)

  pub timed-siblings : (K : KeyList) (p : Path) (t : Times) (f : Forest) → siblings_legal K n p t f ≡ true → AllTimed n f
  unfolding AllTimed siblings_legal
  timed-siblings K p t end h = tt
  timed-siblings K p t (text b r) h = absurd (clash h refl)
  timed-siblings K p t (elem m k r) h =
      let h3 = both_true _ (siblings_legal K n p t r) h in
      let h2 = both_true _ (precedes (some (label K p m k)) (first_label K p r)) h3.0 in
      let h1 = both_true (listed K (p ▸ m) && not (same m (bytes "T"))) _ h2.0 in
      (go (above K (p ▸ m)) (λ x. timed-siblings K (p ▸ m) t k x) h1.1, timed-siblings K p t r h3.1)
    where
      go : (c : Bool) → (siblings_legal K n (p ▸ m) t k ≡ true → AllTimed n k)
          → elim c as (λ _. Bool) [ true ↦ all (λ key. is_one_value (called key k)) (key_names_at K (p ▸ m)) && siblings_legal K n (p ▸ m) t k | false ↦ front_legal n t k ] ≡ true → AllTimed n k
      go true ih x = ih (and_right (all (λ key. is_one_value (called key k)) (key_names_at K (p ▸ m))) (siblings_legal K n (p ▸ m) t k) x)
      go false ih x = timed-held t k x
  timed-siblings K p t (stamp s k r) h =
      let v = times_in n s in
      let h7 = both_true _ (siblings_legal K n p t r) h in
      let h6 = both_true _ (precedes (first_label K p k) (first_label K p r)) h7.0 in
      let h5 = both_true _ (siblings_legal K n p v k) h6.0 in
      let h4 = both_true _ (not (same_times v t)) h5.0 in
      let h3 = both_true _ (within v t) h4.0 in
      let h2 = both_true _ (ever v) h3.0 in
      (and_right (is_sole k) (canonical n s) h2.0, h2.1, timed-siblings K p v k h5.1, timed-siblings K p t r h7.1)

timed-end : (n : ℕ) (r : Forest) → is_end r ≡ true → AllTimed n r
unfolding AllTimed is_end
timed-end n end h = tt
timed-end n (text b r) h = absurd (clash h refl)
timed-end n (elem m k r) h = absurd (clash h refl)
timed-end n (stamp s k r) h = absurd (clash h refl)

-- what is checked of the outer `T`
pub record Outer (K : KeyList) (s : Bytes) (k r : Forest) : Type 0 where
  pub alone : is_end r ≡ true
  pub some-there : 1 ≤ last_number s
  pub small : last_number s ≤ 999
  pub text-is : s ≡ write_times (always (last_number s))
  pub inside : siblings_legal K (last_number s) [] (always (last_number s)) k ≡ true

pub outer : (K : KeyList) (s : Bytes) (k r : Forest) → forest_legal K (stamp s k r) ≡ true → Outer K s k r
unfolding forest_legal
outer K s k r h =
    let n = last_number s in
    let h7 = both_true _ (all_small n k) h in
    let h6 = both_true _ (siblings_legal K n [] (always n) k) h7.0 in
    let h4 = both_true _ (leb (nodes k) 1024) h6.0 in
    let h3 = both_true _ (same s (write_times (always n))) h4.0 in
    let h2 = both_true _ (leb n 999) h3.0 in
    let h1 = both_true (is_end r) (leb 1 n) h2.0 in
    record { alone = h1.0; some-there = leb-true 1 n h1.1; small = leb-true n 999 h2.1; text-is = same-is s (write_times (always n)) h3.1; inside = h6.1 }

pub timed-forest : (K : KeyList) (f : Forest) → forest_legal K f ≡ true → AllTimed (last_version f) f
unfolding forest_legal last_version
timed-forest K end h = absurd (clash h refl)
timed-forest K (text b r) h = absurd (clash h refl)
timed-forest K (elem m k r) h = absurd (clash h refl)
timed-forest K (stamp s k r) h =
    let n = last_number s in
    let o = outer K s k r h in
    subst (λ (z : Bytes). AllTimed n (stamp z k r)) (sym o.text-is)
    (timed-stamp n (always n) (length-always n) o.small (any-always n o.some-there) k r (timed-siblings n K [] (always n) k o.inside) (timed-end n r o.alone))

pub legal-last : (K : KeyList) (f : Forest) → forest_legal K f ≡ true → last_version f ≤ 999
unfolding forest_legal last_version
legal-last K end h = absurd (clash h refl)
legal-last K (text b r) h = absurd (clash h refl)
legal-last K (elem m k r) h = absurd (clash h refl)
legal-last K (stamp s k r) h = (outer K s k r h).small
