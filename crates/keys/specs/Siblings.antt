-- Siblings put in order one after another, and whether two of them have the same label: what the functions' contracts speak of.
use Rattle.std.specs.Prelude.{ℕ, ◌+◌, ◌≡◌, Bool, false, ◌||◌}
use mathlib.Core.Ordering.{lt}
use Rattle.xml.specs.Bytes.{Bytes}
use Rattle.xml.specs.Forest.{Forest, end, elem, text, stamp}
use Rattle.model.specs.Orders.{labels}
use Rattle.keys.specs.KeyList.{Path, KeyList}
use Rattle.keys.specs.Version.{◌▸◌, Label, label, find, is_some, doubled, insert_by}
use Rattle.keys.specs.Sorting.{First}

-- the elements among siblings
unfoldable pub elements : Forest → Forest
elements end = end
elements (text b r) = elements r
elements (stamp t k r) = elements r
elements (elem n k r) = elem n k (elements r)

-- how many elements there are, at every depth
unfoldable pub tags : Forest → ℕ
tags end = 0
tags (text b r) = tags r
tags (stamp t k r) = tags k + tags r
tags (elem n k r) = 1 + tags k + tags r

-- an element with a label is among siblings
abbrev pub is_among : KeyList → Path → Label → Forest → Bool
is_among K p l f = is_some (find K p l f)

-- every element among the siblings is so
abbrev pub Each : (Bytes → Forest → Type 0) → Forest → Type 0
Each P end = Unit {0}
Each P (text b r) = Each P r
Each P (stamp t k r) = Each P r
Each P (elem n k r) = P n k × Each P r

-- each element with something else in it
unfoldable pub each_with : (Bytes → Forest → Forest) → Forest → Forest
each_with to end = end
each_with to (text b r) = text b (each_with to r)
each_with to (stamp t k r) = stamp t k (each_with to r)
each_with to (elem n k r) = elem n (to n k) (each_with to r)

module _ (K : KeyList) (p : Path) where
  -- the elements among siblings, in order
  unfoldable pub in_order : Forest → Forest
  in_order end = end
  in_order (text b r) = in_order r
  in_order (stamp t k r) = in_order r
  in_order (elem n k r) = insert_by K p n k (in_order r)

  -- two of them have the same label
  unfoldable pub twins : Forest → Bool
  twins end = false
  twins (text b r) = twins r
  twins (stamp t k r) = twins r
  twins (elem n k r) = is_among K p (label K p n k) r || twins r

  -- one of them holds two siblings with the same label, or something in it does
  unfoldable pub doubled_kids : Forest → Bool
  doubled_kids end = false
  doubled_kids (text b r) = doubled_kids r
  doubled_kids (stamp t k r) = doubled_kids r
  doubled_kids (elem n k r) = doubled K (p ▸ n) k || doubled_kids r

  -- siblings that ascend
  abbrev pub Rises : Forest → Type 0
  Rises end = Unit {0}
  Rises (text b r) = ⊥
  Rises (stamp t k r) = ⊥
  Rises (elem n k r) = First K p (label K p n k) r × Rises r

  -- the label of the last comes before l
  abbrev pub Ends : Label → Forest → Type 0
  Ends l end = Unit {0}
  Ends l (text b r) = Ends l r
  Ends l (stamp t k r) = Ends l r
  Ends l (elem n k end) = labels.cmp (label K p n k) l ≡ lt
  Ends l (elem n k (text b r)) = Ends l r
  Ends l (elem n k (stamp t j r)) = Ends l r
  Ends l (elem n k (elem m j r)) = Ends l (elem m j r)
