-- Stepping back beneath a frontier: contents in their `T`s, each cut, are the contents of the element cut.
use Rattle.std.specs.Prelude.{ℕ, ◌≤◌, ◌≡◌, Bool, true, false, not, ◌&&◌, length, take}
use Rattle.std.proofs.Common.{arith, sym, ◌∙◌, ap₂, subst}
use Rattle.std.proofs.Math.Path.{refl, ap}
use mathlib.Core.List.{[], ◌∷◌}
use Rattle.model.specs.Gather.{All}
use Rattle.model.specs.Masks.{clash}
use Rattle.model.specs.Keyed.{any, nil}
use Rattle.model.specs.Groups.{Groups, cons_if, cut_g, WFG}
use Rattle.model.specs.GroupLaws.{groups}
use Rattle.model.specs.Stored.{mask_g}
use Rattle.xml.specs.Bytes.{Bytes, bytes, same}
use Rattle.xml.specs.Forest.{Forest, end, elem, text, stamp, join}
use Rattle.xml.specs.Truth.{bool_by, and_left, and_right}
use Rattle.keys.specs.Tree.{Content, inner, front, contents, held_by}
use Rattle.keys.specs.Legal.{untimed, Kind, InnerContent}
use Rattle.timestamp.specs.Times.{Times, same_times, write_times}
use Rattle.timestamp.specs.TimesLaws.{times-self, times-not}
use Rattle.versions.specs.SetLaws.{times_in-cut, ever-any}
use Rattle.versions.specs.Archive.{Archive, branches, holding, wrap}
use Rattle.versions.specs.Walk.{times_in, ever, back_in}
use Rattle.versions.specs.Lawful.{InnerEntry, FrontEntry}
use Rattle.versions.specs.StampedLabels.{mask_one, held_inner}
use Rattle.xml.specs.Complete.{join-end}
use Rattle.versions.specs.CutSets.{mask-cut, all-less}

-- what is cut to the set around it is bare, else in a `T`; what is cut to nothing is dropped
abbrev pub put : Bool → Bytes → Forest → Forest → Forest
put true s k r = join k r
put false s k r = stamp s k r

abbrev pub settled : Bool → Bool → Bytes → Forest → Forest → Forest
settled false c s k r = r
settled true c s k r = put c s k r

pub back-stamp : (i : ℕ) (around t : Times) (k r : Forest) → i ≤ length t → length t ≤ 999
    → back_in i around (stamp (write_times t) k r) ≡ settled (any (take i t)) (same_times around (take i t)) (write_times (take i t)) (back_in i (take i t) k) (back_in i around r)
unfolding back_in
back-stamp i around t k r l m =
    subst (λ (u : Times). back_in i around (stamp (write_times t) k r) ≡ settled (any u) (same_times around u) (write_times u) (back_in i u k) (back_in i around r)) (times_in-cut i t l m)
    (go (ever (times_in i (write_times t))) (same_times around (times_in i (write_times t))) (write_times (times_in i (write_times t))) (back_in i (times_in i (write_times t)) k) (back_in i around r)
    ∙ ap (λ b. settled b (same_times around (times_in i (write_times t))) (write_times (times_in i (write_times t))) (back_in i (times_in i (write_times t)) k) (back_in i around r)) (ever-any (times_in i (write_times t))))
  where
    go : (b c : Bool) (s : Bytes) (j h : Forest)
        → elim b as (λ _. Forest) [ false ↦ h | true ↦ elim c as (λ _. Forest) [ true ↦ join j h | false ↦ stamp s j h ] ] ≡ settled b c s j h
    go false c s j h = refl
    go true true s j h = refl
    go true false s j h = refl

pub wrap-put : (parent t : Times) (m : Bytes) (x r : Forest) → wrap parent t (elem m x) r ≡ put (same_times parent t) (write_times t) (elem m x end) r
unfolding wrap join
wrap-put parent t m x r =
    bool_by (λ b. elim b as (λ _. Forest) [ true ↦ elem m x r | false ↦ stamp (write_times t) (elem m x end) r ] ≡ put b (write_times t) (elem m x end) r)
    (same_times parent t) (λ _. refl) (λ _. refl)

-- content with no `T` stays as it is
back-untimed : (i : ℕ) (around : Times) (f : Forest) → untimed f ≡ true → back_in i around f ≡ f
unfolding untimed back_in
back-untimed i around end u = refl
back-untimed i around (text b r) u = ap (text b) (back-untimed i around r u)
back-untimed i around (stamp s k r) u = absurd (clash u refl)
back-untimed i around (elem m k r) u =
    ap₂ (elem m) (back-untimed i around k (and_right (not (same m (bytes "T"))) _ (and_left (not (same m (bytes "T")) && untimed k) _ u)))
    (back-untimed i around r (and_right (not (same m (bytes "T")) && untimed k) _ u))

-- contents in an element that stands in the versions `around`, each in its `T` unless it has them all
unfoldable spread : Times → Groups Content → Forest
spread around [] = end
spread around (g ∷ gs) = put (same_times around g.0) (write_times g.0) (held_by g.1 end) (spread around gs)

back-branches : (n i : ℕ) (around : Times) (gs : Groups Content) → WFG contents n gs → FrontEntry gs → i ≤ n → n ≤ 999 → back_in i around (branches gs) ≡ spread around (cut_g i gs)
unfolding back_in branches spread cut_g WFG
back-branches n i around [] w h l m = refl
back-branches n i around ((t, inner) ∷ gs) w h l m = absurd h.0
back-branches n i around ((t, front f) ∷ gs) w h l m =
    back-stamp i around t f (branches gs) (omega (arith, w.0)) (omega (arith, w.0))
    ∙ ap₂ (settled (any (take i t)) (same_times around (take i t)) (write_times (take i t))) (back-untimed i (take i t) f h.0.1) (back-branches n i around gs w.3 h.1 l m)
    ∙ bool_by (λ b. settled b (same_times around (take i t)) (write_times (take i t)) f (spread around (cut_g i gs)) ≡ spread around (cons_if b (take i t, front f) (cut_g i gs)))
    (any (take i t)) (λ _. refl) (λ _. refl)

spread-branches : (around : Times) (gs : Groups Content) → All (λ g. around ≡ g.0 → ⊥) gs → spread around gs ≡ branches gs
unfolding spread branches
spread-branches around [] h = refl
spread-branches around (g ∷ gs) h =
    ap (λ b. put b (write_times g.0) (held_by g.1 end) (spread around gs)) (times-not around g.0 h.0)
    ∙ ap (stamp (write_times g.0) (held_by g.1 end)) (spread-branches around gs h.1)

spread-holding : (i : ℕ) (gs : Groups Content) → WFG contents i gs → spread (mask_g i gs) gs ≡ holding gs end
unfolding spread holding WFG
spread-holding i [] w = refl
spread-holding i ((t, c) ∷ []) w =
    ap (λ u. put (same_times u t) (write_times t) (held_by c end) end) (mask_one i t c w.0)
    ∙ ap (λ b. put b (write_times t) (held_by c end) end) (times-self t) ∙ join-end (held_by c end)
spread-holding i (g ∷ h ∷ gs) w = spread-branches (mask_g i (g ∷ h ∷ gs)) (g ∷ h ∷ gs) (all-less contents i g h gs w)

-- ---- an element of n versions, cut to i, in which it still stands
module _ (n i : ℕ) (l : i ≤ n) (m : n ≤ 999) where
  all-cut : (P : Content → Type 0) (gs : Groups Content) → All (λ g. P g.1) gs → All (λ g. P g.1) (cut_g i gs)
  unfolding cut_g
  all-cut P [] h = tt
  all-cut P (g ∷ gs) h = bool_by (λ b. All (λ g. P g.1) (cons_if b (take i g.0, g.1) (cut_g i gs))) (any (take i g.0)) (λ _. (h.0, all-cut P gs h.1)) (λ _. all-cut P gs h.1)

  back-front : (gs : Groups Content) → WFG contents n gs → FrontEntry gs → any (take i (mask_g n gs)) ≡ true
      → back_in i (take i (mask_g n gs)) (holding gs end) ≡ holding (cut_g i gs) end
  unfolding back_in holding cut_g WFG
  back-front [] w h e = refl
  back-front ((t, inner) ∷ gs) w h e = absurd h.0
  back-front ((t, front f) ∷ []) w h e =
      back-untimed i _ f h.0.1
      ∙ ap (λ b. holding (cons_if b (take i t, front f) []) end) (sym (ap (λ u. any (take i u)) (sym (mask_one n t (front f) w.0)) ∙ e))
  back-front ((t, front f) ∷ g ∷ gs) w h e =
      back-branches n i _ ((t, front f) ∷ g ∷ gs) w h l m
      ∙ ap (λ u. spread u (cut_g i ((t, front f) ∷ g ∷ gs))) (sym (mask-cut contents n i ((t, front f) ∷ g ∷ gs) w l))
      ∙ spread-holding i (cut_g i ((t, front f) ∷ g ∷ gs)) ((groups contents).shorter n i ((t, front f) ∷ g ∷ gs) w l)

  -- what it holds, given what becomes of the elements in it
  pub back-holding : (b : Bool) (gs : Groups Content) (k : Archive) (kids cut : Forest) → WFG contents n gs → Kind InnerEntry FrontEntry b gs k → (k ≡ nil → (kids ≡ end) × (cut ≡ end))
      → any (take i (mask_g n gs)) ≡ true → back_in i (take i (mask_g n gs)) kids ≡ cut → back_in i (take i (mask_g n gs)) (holding gs kids) ≡ holding (cut_g i gs) cut
  back-holding true gs k kids cut w h z e ih =
      ap (back_in i (take i (mask_g n gs))) (held_inner n gs kids w h) ∙ ih
      ∙ sym (held_inner i (cut_g i gs) cut ((groups contents).shorter n i gs w l) (all-cut InnerContent gs h))
  back-holding false gs k kids cut w h z e ih =
      ap (λ f. back_in i (take i (mask_g n gs)) (holding gs f)) (z h.1).0 ∙ back-front gs w h.0 e ∙ ap (holding (cut_g i gs)) (sym (z h.1).1)
