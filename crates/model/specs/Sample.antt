-- Labels and contents that are numbers, and an archive of three versions, computed.
use Rattle.std.specs.Prelude.{ℕ, ◌≡◌, refl, [], ◌∷◌, true, false}
use Rattle.model.specs.Gather.{gather}
use Rattle.model.specs.Keyed.{Tree, nil, node, sift, look, merge_by, graft, fresh, any}
use Rattle.model.specs.Groups.{Groups, at_g, cut_g, add_g}
use Rattle.model.specs.Stored.{or_l, mask_g, version_s, cut_s, history_s}
use Rattle.model.specs.Theorems.{archive_of}
use Rattle.model.specs.Orders.{numbers, alike}
use Rattle.model.specs.Direct.{insert_label, labels_in, labels_of, content_at, kids_at, among, distinct, groups_of, direct}

abbrev v₀ : Tree ℕ ℕ
v₀ = node 1 10 (node 5 50 nil nil) (node 3 30 nil nil)

abbrev v₁ : Tree ℕ ℕ
v₁ = node 1 10 nil (node 2 20 (node 7 70 nil nil) (node 3 31 nil nil))

abbrev v₂ : Tree ℕ ℕ
v₂ = node 1 10 (node 5 50 nil nil) (node 3 30 nil nil)

abbrev a₃ : Tree ℕ (Groups ℕ)
a₃ = node 1 ((true ∷ true ∷ true ∷ [], 10) ∷ [])
    (node 5 ((true ∷ false ∷ true ∷ [], 50) ∷ []) nil nil)
    (node 2 ((false ∷ true ∷ false ∷ [], 20) ∷ [])
    (node 7 ((false ∷ true ∷ false ∷ [], 70) ∷ []) nil nil)
    (node 3 ((true ∷ false ∷ true ∷ [], 30) ∷ (false ∷ true ∷ false ∷ [], 31) ∷ []) nil nil))

sample-archive : archive_of numbers (alike numbers) (v₀ ∷ v₁ ∷ v₂ ∷ []) ≡ a₃
unfolding gather merge_by graft fresh add_g
sample-archive = refl

sample-direct : direct numbers (alike numbers) 4 (v₀ ∷ v₁ ∷ v₂ ∷ []) ≡ a₃
unfolding insert_label labels_in labels_of content_at kids_at among distinct groups_of direct
sample-direct = refl

sample-version : version_s 1 a₃ ≡ v₁
unfolding sift at_g
sample-version = refl

sample-cut : cut_s 1 a₃ ≡ archive_of numbers (alike numbers) (v₀ ∷ [])
unfolding gather merge_by graft fresh add_g sift cut_g any mask_g or_l
sample-cut = refl

sample-history : history_s numbers (alike numbers) 3 (2 ∷ 7 ∷ []) a₃ ≡ false ∷ true ∷ false ∷ []
unfolding look mask_g or_l
sample-history = refl
