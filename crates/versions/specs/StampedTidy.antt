-- The forest of a legal archive is one that a text can have: names, maximal runs, and times of digits, `-` and `,`.
use Rattle.std.specs.Prelude.{ℕ, ◌≤◌, ◌≡◌, refl, Bool, length}
use Rattle.std.proofs.Common.{arith}
use Rattle.std.proofs.Math.Bool.{true, false}
use mathlib.Core.List.{[], ◌∷◌}
use Rattle.std.proofs.lemmas.List.{length-replicate}
use Rattle.xml.specs.Bytes.{Bytes, is_name}
use Rattle.xml.specs.Forest.{Forest, end, elem, text, stamp, Tidy, Root}
use Rattle.model.specs.Gather.{All}
use Rattle.model.specs.Masks.{clash}
use Rattle.model.specs.Keyed.{nil, node, WFBy}
use Rattle.model.specs.Orders.{labels}
use Rattle.model.specs.Groups.{Groups, WFG}
use Rattle.model.specs.Stored.{mask_g, length-mask_g, WFS}
use Rattle.keys.specs.KeyList.{Path, KeyList, above}
use Rattle.xml.specs.Truth.{bool_by}
use Rattle.keys.specs.Version.{◌▸◌, name_in}
use Rattle.keys.specs.Tree.{Content, inner, front, contents, held_by}
use Rattle.keys.specs.Legal.{Kind, Lawful}
use Rattle.timestamp.specs.Times.{Times, same_times, write_times, always}
use Rattle.timestamp.specs.TimesLaws.{times-bytes}
use Rattle.versions.specs.Archive.{Archive, wrap, branches, holding, stamped, archive_forest}
use Rattle.versions.specs.Lawful.{InnerEntry, FrontEntry, LawfulArchive, LegalArchive}

-- a forest without times is one of an archive's too
pub tidy-timed : (f : Forest) → Tidy false f → Tidy true f
tidy-timed end h = tt
tidy-timed (elem m k r) h = (h.0, tidy-timed k h.1, tidy-timed r h.2)
tidy-timed (text b end) h = (h.0, h.1, tt, tt)
tidy-timed (text b (elem m k r)) h = (h.0, h.1, tt, tidy-timed (elem m k r) h.3)
tidy-timed (text b (text c r)) h = absurd h.2
tidy-timed (text b (stamp t k r)) h = (h.0, h.1, tt, tidy-timed (stamp t k r) h.3)
tidy-timed (stamp t k r) h = absurd (clash h.0 refl)

-- an entry of either kind has tidy contents
abbrev TidyEntry : Groups Content → Type 0
TidyEntry gs = All (λ g. Tidy true (held_by g.1 end)) gs

tidy-inner : (gs : Groups Content) → InnerEntry gs → TidyEntry gs
tidy-inner [] h = tt
tidy-inner ((t, inner) ∷ gs) h = (tt, tidy-inner gs h.1)
tidy-inner ((t, front f) ∷ gs) h = absurd h.0

tidy-front : (gs : Groups Content) → FrontEntry gs → TidyEntry gs
tidy-front [] h = tt
tidy-front ((t, inner) ∷ gs) h = absurd h.0
tidy-front ((t, front f) ∷ gs) h = (tidy-timed f h.0.0, tidy-front gs h.1)

tidy-kind : (b : Bool) (gs : Groups Content) (k : Archive) → Kind InnerEntry FrontEntry b gs k → TidyEntry gs
tidy-kind true gs k h = tidy-inner gs h
tidy-kind false gs k h = tidy-front gs h.0

module _ (n : ℕ) (u : n ≤ 999) where
  tidy-branches : (gs : Groups Content) → WFG contents n gs → TidyEntry gs → Tidy true (branches gs)
  unfolding branches WFG
  tidy-branches [] w h = tt
  tidy-branches (g ∷ gs) w h = (refl, times-bytes g.0 (omega (arith, w.0)), h.0, tidy-branches gs w.3 h.1)

  tidy-holding : (gs : Groups Content) (kids : Forest) → WFG contents n gs → TidyEntry gs → Tidy true kids → Tidy true (holding gs kids)
  unfolding holding
  tidy-holding [] kids w h k = k
  tidy-holding ((t, inner) ∷ []) kids w h k = k
  tidy-holding ((t, front f) ∷ []) kids w h k = h.0
  tidy-holding (g ∷ j ∷ gs) kids w h k = tidy-branches (g ∷ j ∷ gs) w h

  tidy-wrap : (p t : Times) (m : Bytes) (k r : Forest) → length t ≡ n → is_name m ≡ true → Tidy true k → Tidy true r → Tidy true (wrap p t (elem m k) r)
  unfolding wrap
  tidy-wrap p t m k r e c h j = bool_by (λ b. Tidy true (elim b as (λ _. Forest) [ true ↦ elem m k r | false ↦ stamp (write_times t) (elem m k end) r ])) (same_times p t)
      (λ _. (c, h, j)) (λ _. (refl, times-bytes t (omega arith), (c, h, tt), j))

  pub tidy-stamped : (K : KeyList) (p : Path) (t : Times) (a : Archive) → WFS labels contents n a → LawfulArchive K n p a → Tidy true (stamped n t a)
  unfolding stamped WFBy Lawful
  tidy-stamped K p t nil w h = tt
  tidy-stamped K p t (node l gs k r) w h =
      tidy-wrap t (mask_g n gs) (name_in l) (holding gs (stamped n (mask_g n gs) k)) (stamped n t r) (length-mask_g contents n gs w.0) h.0
      (tidy-holding gs (stamped n (mask_g n gs) k) w.0 (tidy-kind (above K (p ▸ name_in l)) gs k h.3) (tidy-stamped K (p ▸ name_in l) (mask_g n gs) k w.4 h.5))
      (tidy-stamped K p t r w.5 h.6)

pub archive-tidy : (K : KeyList) (n : ℕ) (a : Archive) → LegalArchive K n a → n ≤ 999 → Tidy true (archive_forest n a) × Root (archive_forest n a)
unfolding archive_forest always
archive-tidy K n a h u = ((refl, times-bytes (always n) (omega (arith, length-replicate n true)), tidy-stamped n u K [] (always n) a h.formed h.lawful, tt), refl)
