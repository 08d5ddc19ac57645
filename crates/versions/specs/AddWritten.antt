-- A version more, on written siblings: how those are written that only the archive has, only the version has, or both.
use Rattle.std.specs.Prelude.{ℕ, suc, ◌≡◌, refl, Bool, true, false}
use Rattle.std.proofs.Common.{sym, ◌∙◌, ap₂}
use Rattle.std.proofs.Math.Path.{ap}
use Rattle.std.proofs.Math.Option.{none, some}
use mathlib.Core.List.{[]}
use Rattle.xml.specs.Bytes.{Bytes}
use Rattle.xml.specs.Forest.{Forest, end, elem, stamp}
use Rattle.model.specs.Keyed.{Tree, nil, node, any, ◌▷◌, fresh, merge_by, graft, WFBy}
use Rattle.model.specs.Merged.{Zip, merge-is}
use Rattle.model.specs.Orders.{labels}
use Rattle.model.specs.Groups.{Groups, add_g, WFG}
use Rattle.model.specs.Stored.{mask_g, merge_s, WFS, mask-add}
use Rattle.keys.specs.Version.{Label, name_in}
use Rattle.keys.specs.Tree.{Content, contents, held_by, forest_of}
use Rattle.timestamp.specs.Times.{Times, only_after, write_times}
use Rattle.timestamp.specs.TimesLaws.{write-lacks}
use Rattle.versions.specs.Archive.{Archive, wrap, holding, stamped}
use Rattle.versions.specs.Walk.{newest}
use Rattle.versions.specs.StampedLabels.{wrap-bare}
use Rattle.versions.specs.AddContents.{same_more, same-apart, same-alone, wrap-other, holding-lacks}

-- ---- written siblings
-- what an element of the archive holds
abbrev pub content : ℕ → Groups Content → Archive → Forest
content n gs k = holding gs (stamped n (mask_g n gs) k)

stamped-node : (n : ℕ) (parent : Times) (l : Label) (gs : Groups Content) (k r : Archive) {t : Times} {x y : Forest}
    → mask_g n gs ≡ t → holding gs (stamped n t k) ≡ x → stamped n parent r ≡ y → stamped n parent (node l gs k r) ≡ wrap parent t (elem (name_in l) x) y
unfolding stamped
stamped-node n parent l gs k r {t = t} d e f =
    ap (λ t. wrap parent t (elem (name_in l) (holding gs (stamped n t k))) (stamped n parent r)) d ∙ ap₂ (λ x y. wrap parent t (elem (name_in l) x) y) e f

wrap-lacks : (parent t : Times) (element : Forest → Forest) (r : Forest) → wrap (parent ▷ false) (t ▷ false) element r ≡ wrap parent t element r
unfolding wrap
wrap-lacks parent t element r =
    ap₂ (λ (b : Bool) (s : Bytes). elim b as (λ _. Forest) [ true ↦ element r | false ↦ stamp s (element end) r ]) (same_more parent t false) (write-lacks t)

-- what a version lacks altogether is written as before
stamped-lacks : (n : ℕ) (parent : Times) (a : Archive) → WFS labels contents n a → stamped (suc n) (parent ▷ false) (merge_s labels contents n a nil) ≡ stamped n parent a
unfolding stamped merge_by graft fresh WFBy
stamped-lacks n parent nil w = refl
stamped-lacks n parent (node l gs k r) w =
    stamped-node (suc n) (parent ▷ false) l (add_g contents n gs none) (merge_s labels contents n k nil) (merge_s labels contents n r nil) (mask-add contents n gs none w.0)
    (ap (holding (add_g contents n gs none)) (stamped-lacks n (mask_g n gs) k w.4) ∙ holding-lacks n gs (stamped n (mask_g n gs) k)) (stamped-lacks n parent r w.5)
    ∙ wrap-lacks parent (mask_g n gs) (elem (name_in l) (content n gs k)) (stamped n parent r)

-- what only the version has is written as it stands there
mask-new : (n : ℕ) (c : Content) → mask_g (suc n) (add_g contents n [] (some c)) ≡ only_after n
unfolding mask_g only_after WFG
mask-new n c = mask-add contents n [] (some c) tt

holding-new : (n : ℕ) (c : Content) (kids : Forest) → holding (add_g contents n [] (some c)) kids ≡ held_by c kids
unfolding holding add_g
holding-new n c kids = refl

pub stamped-fresh : (n : ℕ) (t : Tree Label Content) → stamped (suc n) (only_after n) (merge_s labels contents n nil t) ≡ forest_of t
unfolding stamped merge_by fresh forest_of
stamped-fresh n nil = refl
stamped-fresh n (node l c k r) =
    stamped-node (suc n) (only_after n) l (add_g contents n [] (some c)) (merge_s labels contents n nil k) (merge_s labels contents n nil r) (mask-new n c)
    (holding-new n c _ ∙ ap (held_by c) (stamped-fresh n k)) (stamped-fresh n r)
    ∙ wrap-bare (only_after n) (elem (name_in l) (held_by c (forest_of k))) (forest_of r)

-- ---- an element of the merged siblings, as it is written
-- the graph of merging
abbrev pub Merging : ℕ → Archive → Tree Label Content → Archive → Type 0
Merging n = Zip labels (λ c. add_g contents n [] (some c)) (add_g contents n)

module _ (n : ℕ) (parent : Times) (l : Label) (r : Archive) {rest : Forest} (d : stamped (suc n) (parent ▷ true) r ≡ rest) where
  -- of the archive alone
  pub written-old : (gs : Groups Content) (k : Archive) {m : Archive} → WFG contents n gs → WFS labels contents n k → Merging n k nil m
      → stamped (suc n) (parent ▷ true) (node l (add_g contents n gs none) m r) ≡ stamp (write_times (mask_g n gs)) (elem (name_in l) (content n gs k) end) rest
  written-old gs k {m} f w z =
      stamped-node (suc n) (parent ▷ true) l (add_g contents n gs none) m r (mask-add contents n gs none f)
      (holding-lacks n gs _ ∙ ap (holding gs) (ap (stamped (suc n) (mask_g n gs ▷ false)) (sym (merge-is labels _ _ z)) ∙ stamped-lacks n (mask_g n gs) k w)) d
      ∙ wrap-other (parent ▷ true) (mask_g n gs ▷ false) _ _ (same-apart parent (mask_g n gs))
      ∙ ap (λ s. stamp s (elem (name_in l) (content n gs k) end) rest) (write-lacks (mask_g n gs))

  -- of the version alone
  pub written_new : (c : Content) (k : Tree Label Content) {m : Archive} → any parent ≡ true → Merging n nil k m
      → stamped (suc n) (parent ▷ true) (node l (add_g contents n [] (some c)) m r) ≡ newest n (elem (name_in l) (held_by c (forest_of k)) end) rest
  unfolding newest
  written_new c k {m} e z =
      stamped-node (suc n) (parent ▷ true) l (add_g contents n [] (some c)) m r (mask-new n c)
      (holding-new n c _ ∙ ap (held_by c) (ap (stamped (suc n) (only_after n)) (sym (merge-is labels _ _ z)) ∙ stamped-fresh n k)) d
      ∙ wrap-other (parent ▷ true) (only_after n) _ _ (same-alone n parent e)

  -- of both
  pub written_both : (gs : Groups Content) (c : Content) (k : Archive) → WFG contents n gs
      → stamped (suc n) (parent ▷ true) (node l (add_g contents n gs (some c)) k r)
      ≡ wrap (parent ▷ true) (mask_g n gs ▷ true) (elem (name_in l) (holding (add_g contents n gs (some c)) (stamped (suc n) (mask_g n gs ▷ true) k))) rest
  written_both gs c k f = stamped-node (suc n) (parent ▷ true) l (add_g contents n gs (some c)) k r (mask-add contents n gs (some c) f) refl d
