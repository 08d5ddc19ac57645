-- Forests, and the texts of them, that differ only in the order of keyed siblings.
use Rattle.std.specs.Prelude.{◌≡◌, true, List, [], ◌∷◌}
use Rattle.xml.specs.Bytes.{Bytes, line_ends}
use Rattle.xml.specs.Forest.{Forest, elem, text}
use Rattle.keys.specs.KeyList.{Path, KeyList, above}
use Rattle.keys.specs.Version.{◌▸◌, VersionSpells}

-- two forests in an element of path p, [] for the root: one comes from the other by steps of these kinds, any number of them
pub data Alike (K : KeyList) : Path → Forest → Forest → Type 0 where
  -- "keyed siblings in any order": two neighbours, directly in an element above the frontiers, change places
  swapped : {p : Path} {n m : Bytes} {k j r : Forest} → above K p ≡ true → Alike K p (elem n k (elem m j r)) (elem m j (elem n k r))
  -- an element there changes places with a run of text beside it: white space is dropped there, any other text refused wherever it stands
  moved : {p : Path} {n b : Bytes} {k r : Forest} → above K p ≡ true → Alike K p (elem n k (text b r)) (text b (elem n k r))
  -- what an element holds
  inside : {p : Path} {n : Bytes} {k j r : Forest} → Alike K (p ▸ n) k j → Alike K p (elem n k r) (elem n j r)
  -- the siblings after an element, or after a run of text
  past : {p : Path} {n : Bytes} {k r s : Forest} → Alike K p r s → Alike K p (elem n k r) (elem n k s)
  beyond : {p : Path} {b : Bytes} {r s : Forest} → Alike K p r s → Alike K p (text b r) (text b s)
  -- no step; the same steps backwards; some steps and then some
  as_is : {p : Path} {f : Forest} → Alike K p f f
  backwards : {p : Path} {f g : Forest} → Alike K p f g → Alike K p g f
  then : {p : Path} {f g h : Forest} → Alike K p f g → Alike K p g h → Alike K p f h

-- demand 3's "each with its keyed siblings in any order", of two texts: the forests that they spell as received are alike
pub record AnyOrder (K : KeyList) (s t : Bytes) : Type 0 where
  pub first : Forest
  pub second : Forest
  pub first-spelled : VersionSpells (line_ends s) first
  pub second-spelled : VersionSpells (line_ends t) second
  pub alike : Alike K [] first second

-- of two lists of texts, number by number
pub data EachInAnyOrder (K : KeyList) : List Bytes → List Bytes → Type 0 where
  none : EachInAnyOrder K [] []
  more : {s t : Bytes} {ss ts : List Bytes} → AnyOrder K s t → EachInAnyOrder K ss ts → EachInAnyOrder K (s ∷ ss) (t ∷ ts)
