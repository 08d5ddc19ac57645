-- "Stepping back can't meet 13": an archive cut to its first versions has no more nodes.
use Rattle.std.specs.Prelude.{ℕ, ◌+◌, ◌≤◌, ◌≡◌, refl, Bool, [], ◌∷◌, take}
use Rattle.std.proofs.Common.{arith, sym}
use Rattle.std.proofs.Math.Path.{subst}
use Rattle.std.proofs.Math.Bool.{true, false}
use Rattle.xml.specs.Bytes.{Bytes, bytes, same}
use Rattle.xml.specs.Forest.{Forest, end, elem, stamp, nodes}
use Rattle.model.specs.Keyed.{nil, node, any, keep_if, grown, sift, WFBy}
use Rattle.model.specs.Masks.{clash}
use Rattle.model.specs.Orders.{labels}
use Rattle.model.specs.Groups.{Groups, cons_if, cut_g, Apart, WFG}
use Rattle.model.specs.Stored.{mask_g, cut_s, WFS}
use Rattle.keys.specs.KeyList.{Path, KeyList, above}
use Rattle.xml.specs.Truth.{bool_by}
use Rattle.keys.specs.Version.{◌▸◌, name_in}
use Rattle.keys.specs.Tree.{Content, inner, front, same_content, contents, held_by}
use Rattle.keys.specs.Legal.{Kind, Lawful}
use Rattle.timestamp.specs.Times.{Times, same_times, write_times, always}
use Rattle.versions.specs.Archive.{Archive, wrap, branches, holding, stamped, archive_forest}
use Rattle.versions.specs.Lawful.{InnerEntry, FrontEntry, LawfulArchive}
use Rattle.versions.specs.StampedLabels.{held_inner}

-- an element named T counts for nothing
one : Bytes → ℕ
one m = elim (same m (bytes "T")) [ true ↦ 0 | false ↦ 1 ]

-- a timestamp counts for nothing
nodes-wrap : (p t : Times) (m : Bytes) (k r : Forest) → nodes (wrap p t (elem m k) r) ≡ one m + nodes k + nodes r
unfolding wrap nodes one
nodes-wrap p t m k r = bool_by (λ b. nodes (elim b as (λ _. Forest) [ true ↦ elem m k r | false ↦ stamp (write_times t) (elem m k end) r ]) ≡ one m + nodes k + nodes r)
    (same_times p t) (λ _. refl) (λ _. omega arith)

-- the contents of a frontier, and those that a cut leaves
sizes : Groups Content → ℕ
sizes [] = 0
sizes (g ∷ gs) = nodes (held_by g.1 end) + sizes gs

nodes-branches : (gs : Groups Content) → nodes (branches gs) ≡ sizes gs
unfolding branches sizes nodes
nodes-branches [] = refl
nodes-branches (g ∷ gs) = rw (nodes-branches gs) refl

nodes-holding : (gs : Groups Content) → nodes (holding gs end) ≡ sizes gs
unfolding holding sizes nodes
nodes-holding [] = refl
nodes-holding (g ∷ []) = omega arith
nodes-holding (g ∷ h ∷ gs) = nodes-branches (g ∷ h ∷ gs)

sizes-cut : (i : ℕ) (gs : Groups Content) → sizes (cut_g i gs) ≤ sizes gs
unfolding cut_g sizes
sizes-cut i [] = omega arith
sizes-cut i (g ∷ gs) = bool_by (λ b. sizes (cons_if b (take i g.0, g.1) (cut_g i gs)) ≤ nodes (held_by g.1 end) + sizes gs) (any (take i g.0))
    (λ _. omega (arith, sizes-cut i gs)) (λ _. omega (arith, sizes-cut i gs))

-- contents above a frontier: a cut leaves no second one
held_cut : (n i : ℕ) (gs : Groups Content) (kids : Forest) → WFG contents n gs → InnerEntry gs → holding (cut_g i gs) kids ≡ kids
unfolding holding cut_g WFG Apart same_content
held_cut n i [] kids w h = refl
held_cut n i ((t, inner) ∷ []) kids w h =
    bool_by (λ b. holding (cons_if b (take i t, inner) []) kids ≡ kids) (any (take i t)) (λ _. refl) (λ _. refl)
held_cut n i ((t, front f) ∷ gs) kids w h = absurd h.0
held_cut n i ((t, inner) ∷ (u, front f) ∷ gs) kids w h = absurd h.1.0
held_cut n i ((t, inner) ∷ (u, inner) ∷ gs) kids w h = absurd (clash refl w.2.0)

-- an element of either kind, and its part in i versions
module _ (n i : ℕ) (gs : Groups Content) (k : Archive) (w : WFG contents n gs)
    (ih : (t s : Times) → nodes (stamped i s (cut_s i k)) ≤ nodes (stamped n t k)) where
  nodes-held : (b : Bool) → Kind InnerEntry FrontEntry b gs k → (t s : Times) → nodes (holding (cut_g i gs) (stamped i s (cut_s i k))) ≤ nodes (holding gs (stamped n t k))
  unfolding sift stamped
  nodes-held true h t s = rw (held_cut n i gs (stamped i s (cut_s i k)) w h, held_inner n gs (stamped n t k) w h) (ih t s)
  nodes-held false h t s =
      subst (λ (j : Archive). nodes (holding (cut_g i gs) (stamped i s (cut_s i j))) ≤ nodes (holding gs (stamped n t j))) (sym h.1)
      (omega (arith, nodes-holding gs, nodes-holding (cut_g i gs), sizes-cut i gs))

nodes-cut : (K : KeyList) (n i : ℕ) (p : Path) (a : Archive) → WFS labels contents n a → LawfulArchive K n p a
    → (t s : Times) → nodes (stamped i s (cut_s i a)) ≤ nodes (stamped n t a)
unfolding sift stamped WFBy Lawful
nodes-cut K n i p nil w h t s = omega arith
nodes-cut K n i p (node l gs k r) w h t s =
    let rest : nodes (stamped i s (cut_s i r)) ≤ nodes (stamped n t r) = nodes-cut K n i p r w.5 h.6 t s in
    let whole = nodes-wrap t (mask_g n gs) (name_in l) (holding gs (stamped n (mask_g n gs) k)) (stamped n t r) in
    let u : Times = mask_g i (cut_g i gs) in
    bool_by (λ b. nodes (stamped i s (grown l (keep_if b (cut_g i gs)) (cut_s i k) (cut_s i r))) ≤ nodes (stamped n t (node l gs k r))) (any u)
    (λ _. omega (
      arith,
      nodes-wrap s u (name_in l) (holding (cut_g i gs) (stamped i u (cut_s i k))) (stamped i s (cut_s i r)),
      nodes-held n i gs k w.0 (nodes-cut K n i (p ▸ name_in l) k w.4 h.5) (above K (p ▸ name_in l)) h.3 (mask_g n gs) u,
    ))
    (λ _. omega arith)

-- stepping back adds no node
pub nodes-back : (K : KeyList) (n i : ℕ) (a : Archive) → WFS labels contents n a → LawfulArchive K n [] a → nodes (archive_forest i (cut_s i a)) ≤ nodes (archive_forest n a)
unfolding archive_forest nodes
nodes-back K n i a w h = omega (arith, nodes-cut K n i [] a w h (always n) (always i))
