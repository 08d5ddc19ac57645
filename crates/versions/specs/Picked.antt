-- What the timestamps of an archive's forest pick for a version is that version.
use Rattle.std.specs.Prelude.{ℕ, zero, suc, ◌-◌, ◌≤◌, ◌<◌, Bool, not, ◌&&◌, ◌||◌, length}
use Rattle.std.proofs.Common.{arith, sym, ◌∙◌}
use Rattle.std.proofs.Math.Path.{◌≡◌, refl, ap, ap₂}
use Rattle.std.proofs.Math.Bool.{true, false, or-false}
use Rattle.std.proofs.Math.Option.{Option, none, some}
use mathlib.Core.List.{[], ◌∷◌}
use Rattle.std.proofs.Math.ListN.{get_or}
use Rattle.std.proofs.lemmas.List.{length-replicate, get_or-replicate}
use Rattle.xml.specs.Bytes.{Bytes, bytes, same}
use Rattle.xml.specs.Forest.{Forest, end, elem, text, stamp, join}
use Rattle.model.specs.Masks.{clash}
use Rattle.model.specs.Keyed.{nil, node, is_some, grown, sift, WFBy}
use Rattle.model.specs.Orders.{labels}
use Rattle.model.specs.Groups
use Rattle.model.specs.Groups.{Groups, at_g, Apart, WFG, disjoint-get}
use Rattle.model.specs.Stored.{or_l, mask_g, length-mask_g, version_s, WFS}
use Rattle.keys.specs.KeyList.{Path, KeyList, above}
use Rattle.xml.specs.Truth.{bool_by, and_left, and_right}
use Rattle.keys.specs.Version.{◌▸◌, name_in}
use Rattle.keys.specs.Tree.{Content, inner, front, contents, held_by, forest_of}
use Rattle.keys.specs.Legal.{untimed, Kind, Lawful}
use Rattle.xml.specs.Complete.{join-end}
use Rattle.timestamp.specs.Times.{Times, same_times, always, write_times, belongs}
use Rattle.timestamp.specs.TimesLaws.{times-not, belongs-times}
use Rattle.versions.specs.Archive.{Archive, wrap, branches, holding, stamped, archive_forest, pick}
use Rattle.versions.specs.Lawful.{InnerEntry, FrontEntry, LawfulArchive, LegalArchive}
use Rattle.versions.specs.StampedLabels.{held_inner}

-- content beneath a frontier is of every version
pub untimed-pick : (i : ℕ) (f : Forest) → untimed f ≡ true → pick i f ≡ f
unfolding pick untimed
untimed-pick i end e = refl
untimed-pick i (text b r) e = ap (text b) (untimed-pick i r e)
untimed-pick i (elem m k r) e =
    ap₂ (elem m) (untimed-pick i k (and_right (not (same m (bytes "T"))) (untimed k) (and_left (not (same m (bytes "T")) && untimed k) (untimed r) e)))
    (untimed-pick i r (and_right (not (same m (bytes "T")) && untimed k) (untimed r) e))
untimed-pick i (stamp t k r) e = absurd (clash e refl)

-- ---- sets: an element stands in the versions that have a content of it
get-or : (i : ℕ) (p q : Times) → get_or (or_l p q) i false ≡ (get_or p i false || get_or q i false)
unfolding or_l
get-or i [] q = refl
get-or i (b ∷ p) [] = sym (or-false (get_or (b ∷ p) i false))
get-or zero (b ∷ p) (c ∷ q) = refl
get-or (suc i) (b ∷ p) (c ∷ q) = get-or i p q

get-mask : (n i : ℕ) (gs : Groups Content) → i < n → get_or (mask_g n gs) i false ≡ is_some (at_g i gs)
unfolding mask_g at_g
get-mask n i [] l = get_or-replicate n i false false l
get-mask n i (g ∷ gs) l = get-or i g.0 (mask_g n gs) ∙ ap (λ b. get_or g.0 i false || b) (get-mask n i gs l)
    ∙ bool_by (λ b. (b || is_some (at_g i gs)) ≡ is_some (Groups.pick b g.1 (at_g i gs))) (get_or g.0 i false) (λ _. refl) (λ _. refl)

belongs-set : (i : ℕ) (t : Times) → length t ≤ 999 → belongs (suc i) (write_times t) ≡ get_or t i false
belongs-set i t u = let z : suc i - 1 ≡ i = omega arith in belongs-times (suc i) t (omega arith) u ∙ ap (λ j. get_or t j false) z

-- ---- version i + 1 of n
module _ (n i : ℕ) (l : i < n) (u : n ≤ 999) where
  -- an element that stands there, and one that does not where its parent does
  pick-there : (p t : Times) (m : Bytes) (k r : Forest) → length t ≡ n → get_or t i false ≡ true → pick (suc i) (wrap p t (elem m k) r) ≡ elem m (pick (suc i) k) (pick (suc i) r)
  unfolding pick wrap join
  pick-there p t m k r e h =
      bool_by (λ b. pick (suc i) (elim b as (λ _. Forest) [ true ↦ elem m k r | false ↦ stamp (write_times t) (elem m k end) r ]) ≡ elem m (pick (suc i) k) (pick (suc i) r)) (same_times p t)
      (λ _. refl) (λ _. rw (belongs-set i t (omega arith) ∙ h, pick))

  pick-gone : (p t : Times) (m : Bytes) (k r : Forest) → length t ≡ n → get_or p i false ≡ true → get_or t i false ≡ false → pick (suc i) (wrap p t (elem m k) r) ≡ pick (suc i) r
  unfolding pick wrap
  pick-gone p t m k r e g h =
      let z : wrap p t (elem m k) r ≡ stamp (write_times t) (elem m k end) r = rw (times-not p t (λ d. clash (rw d at g) h), wrap) in
      ap (pick (suc i)) z ∙ rw (belongs-set i t (omega arith) ∙ h, pick)

  -- contents share no version, so that at most one of them is picked
  pick-apart : (p : Times) (c : Content) (gs : Groups Content) → WFG contents n gs → Apart contents p c gs → get_or p i false ≡ true → pick (suc i) (branches gs) ≡ end
  unfolding pick branches WFG Apart
  pick-apart p c [] w a e = refl
  pick-apart p c (g ∷ gs) w a e = rw (belongs-set i g.0 (omega (arith, w.0)) ∙ disjoint-get i p g.0 a.1 e, pick) (pick-apart p c gs w.3 a.3 e)

  abbrev held_if : Option Content → Forest
  held_if none = end
  held_if (some c) = held_by c end

  pick-branches : (gs : Groups Content) → WFG contents n gs → FrontEntry gs → pick (suc i) (branches gs) ≡ held_if (at_g i gs)
  unfolding pick branches WFG at_g
  pick-branches [] w h = refl
  pick-branches ((t, inner) ∷ gs) w h = absurd h.0
  pick-branches ((t, front f) ∷ gs) w h = rw (belongs-set i t (omega (arith, w.0)), pick) (go (get_or t i false) refl (pick-branches gs w.3 h.1))
    where
      go : (b : Bool) → get_or t i false ≡ b → pick (suc i) (branches gs) ≡ held_if (at_g i gs)
          → elim b as (λ _. Forest) [ true ↦ join (pick (suc i) f) (pick (suc i) (branches gs)) | false ↦ pick (suc i) (branches gs) ] ≡ held_if (Groups.pick b (front f) (at_g i gs))
      go true e ih = ap₂ join (untimed-pick (suc i) f h.0.1) (pick-apart t (front f) gs w.3 w.2 e) ∙ join-end f
      go false e ih = ih

  -- what a frontier holds there
  pick-front : (gs : Groups Content) (kids : Forest) (c : Content) → WFG contents n gs → FrontEntry gs → at_g i gs ≡ some c → pick (suc i) (holding gs kids) ≡ held_by c end
  unfolding holding at_g
  pick-front [] kids c w h e = let z : ◌≡◌ {A = ℕ} 0 1 = cc in absurd (omega arith)
  pick-front ((t, inner) ∷ gs) kids c w h e = absurd h.0
  pick-front ((t, front f) ∷ []) kids c w h e = untimed-pick (suc i) f h.0.1 ∙ go (get_or t i false) e
    where
      go : (b : Bool) → Groups.pick b (front f) none ≡ some c → f ≡ held_by c end
      go true d = let x : front f ≡ c = cc in ap (λ y. held_by y end) x
      go false d = let z : ◌≡◌ {A = ℕ} 0 1 = cc in absurd (omega arith)
  pick-front ((t, front f) ∷ g ∷ gs) kids c w h e = pick-branches ((t, front f) ∷ g ∷ gs) w h ∙ ap held_if e

  -- the content above a frontier
  inner-at : (gs : Groups Content) (c : Content) → InnerEntry gs → at_g i gs ≡ some c → inner ≡ c
  unfolding at_g
  inner-at [] c h e = let z : ◌≡◌ {A = ℕ} 0 1 = cc in absurd (omega arith)
  inner-at ((t, front f) ∷ gs) c h e = absurd h.0
  inner-at ((t, inner) ∷ gs) c h e = go (get_or t i false) e (λ d. inner-at gs c h.1 d)
    where
      go : (b : Bool) → Groups.pick b inner (at_g i gs) ≡ some c → (at_g i gs ≡ some c → inner ≡ c) → inner ≡ c
      go true d ih = cc
      go false d ih = ih d

  pick-held : (b : Bool) (gs : Groups Content) (t : Times) (k : Archive) (c : Content) → Kind InnerEntry FrontEntry b gs k → WFG contents n gs → at_g i gs ≡ some c
      → pick (suc i) (stamped n t k) ≡ forest_of (version_s i k) → pick (suc i) (holding gs (stamped n t k)) ≡ held_by c (forest_of (version_s i k))
  unfolding sift forest_of
  pick-held true gs t k c h w e ih = ap (pick (suc i)) (held_inner n gs (stamped n t k) w h) ∙ ih ∙ ap (λ d. held_by d (forest_of (version_s i k))) (inner-at gs c h e)
  pick-held false gs t k c h w e ih = pick-front gs (stamped n t k) c w h.0 e ∙ ap (λ j. held_by c (forest_of (version_s i j))) (sym h.1)

  -- siblings in an element that stands there
  pub pick-stamped : (K : KeyList) (p : Path) (t : Times) (a : Archive) → WFS labels contents n a → LawfulArchive K n p a → get_or t i false ≡ true
      → pick (suc i) (stamped n t a) ≡ forest_of (version_s i a)
  unfolding pick stamped sift forest_of WFBy Lawful
  pick-stamped K p t nil w h e = refl
  pick-stamped K p t (node m gs k r) w h e =
      go (at_g i gs) refl (λ d. pick-stamped K (p ▸ name_in m) (mask_g n gs) k w.4 h.5 d) (pick-stamped K p t r w.5 h.6 e)
    where
      go : (o : Option Content) → at_g i gs ≡ o → (get_or (mask_g n gs) i false ≡ true → pick (suc i) (stamped n (mask_g n gs) k) ≡ forest_of (version_s i k)) → pick (suc i) (stamped n t r) ≡ forest_of (version_s i r)
          → pick (suc i) (wrap t (mask_g n gs) (elem (name_in m) (holding gs (stamped n (mask_g n gs) k))) (stamped n t r)) ≡ forest_of (grown m o (version_s i k) (version_s i r))
      go none d kids rest = pick-gone t (mask_g n gs) (name_in m) _ _ (length-mask_g contents n gs w.0) e (get-mask n i gs l ∙ ap is_some d) ∙ rest
      go (some c) d kids rest =
          let there : get_or (mask_g n gs) i false ≡ true = get-mask n i gs l ∙ ap is_some d in
          pick-there t (mask_g n gs) (name_in m) _ _ (length-mask_g contents n gs w.0) there
          ∙ ap₂ (elem (name_in m)) (pick-held (above K (p ▸ name_in m)) gs (mask_g n gs) k c h.3 w.0 d (kids there)) rest

-- version i of an archive, counted from 0 here and from 1 in timestamps
pub pick-archive : (K : KeyList) (n i : ℕ) (a : Archive) → LegalArchive K n a → n ≤ 999 → i < n → pick (suc i) (archive_forest n a) ≡ forest_of (version_s i a)
unfolding archive_forest always pick
pick-archive K n i a h u l =
    rw (belongs-set i (always n) (omega (arith, length-replicate n true)) ∙ get_or-replicate n i true false l, pick)
    (join-end (pick (suc i) (stamped n (always n) a)) ∙ pick-stamped n i l u K [] (always n) a h.formed h.lawful (get_or-replicate n i true false l))
