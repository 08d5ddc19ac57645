-- The archive of a list of versions, directly: each element once among its siblings, in the order of the labels, with its distinct
-- contents, each with the versions that have it, ordered by first version.
use Rattle.std.specs.Prelude.{ℕ, zero, suc, max, Bool, true, false, ◌||◌}
use mathlib.Core.List.{List, [], ◌∷◌, map, foldr}
use Rattle.std.proofs.Math.Option.{Option, none, some}
use Rattle.model.specs.Keyed.{Order, Tree, nil, node, three}
use Rattle.model.specs.Groups.{Same, Groups, hit}

-- how deep elements lie
unfoldable pub height : {L X : Type 0} → Tree L X → ℕ
height nil = 0
height (node l x k r) = max (suc (height k)) (height r)

module _ {L : Type 0} (ord : Order L) where
  -- a label at its place among ascending ones, each once
  unfoldable pub insert_label : L → List L → List L
  insert_label l [] = l ∷ []
  insert_label l (m ∷ ms) = three (ord.cmp l m) (l ∷ m ∷ ms) (m ∷ ms) (m ∷ insert_label l ms)

  -- the labels of siblings, and of the siblings of all versions
  unfoldable pub labels_in : {C : Type 0} → Tree L C → List L → List L
  labels_in nil ls = ls
  labels_in (node l c k r) ls = insert_label l (labels_in r ls)

  unfoldable pub labels_of : {C : Type 0} → List (Tree L C) → List L
  labels_of [] = []
  labels_of (v ∷ vs) = labels_in v (labels_of vs)

  -- what a version has at a label: its content, and the elements beneath it
  unfoldable pub content_at : {C : Type 0} → L → Tree L C → Option C
  content_at l nil = none
  content_at l (node m c k r) = three (ord.cmp l m) none (some c) (content_at l r)

  unfoldable pub kids_at : {C : Type 0} → L → Tree L C → Tree L C
  kids_at l nil = nil
  kids_at l (node m c k r) = three (ord.cmp l m) nil k (kids_at l r)

module _ {C : Type 0} (sm : Same C) where
  unfoldable pub among : C → List C → Bool
  among c [] = false
  among c (d ∷ ds) = sm.test c d || among c ds

  -- the distinct contents of a column, by first version, but for those seen before
  unfoldable pub distinct : List C → List (Option C) → List C
  distinct seen [] = []
  distinct seen (none ∷ h) = distinct seen h
  distinct seen (some c ∷ h) = elim (among c seen) [ true ↦ distinct seen h | false ↦ c ∷ distinct (c ∷ seen) h ]

  -- each with the versions that have it
  unfoldable pub groups_of : List (Option C) → Groups C
  groups_of h = map (λ c. (map (λ o. hit sm o c) h, c)) (distinct [] h)

module _ {L C : Type 0} (ord : Order L) (sm : Same C) where
  -- the archive of versions of height d at most
  unfoldable pub direct : ℕ → List (Tree L C) → Tree L (Groups C)
  direct zero vs = nil
  direct (suc d) vs = foldr (λ l rest. node l (groups_of sm (map (content_at ord l) vs)) (direct d (map (kids_at ord l) vs)) rest) nil (labels_of ord vs)
