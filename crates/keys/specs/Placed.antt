-- A place of the table: the number that stands for a path where a program walks a tree.
use Rattle.std.specs.Prelude.{ℕ, ◌≡◌, List}
use Rattle.xml.specs.Bytes.{Bytes}
use Rattle.keys.specs.KeyList.{Path, KeyList}
use Rattle.keys.specs.Table.{place_of, Table}

-- what a function that is handed a place asks
pub record Placed (text : Bytes) (cells : List ℕ) (n place : ℕ) : Type 0 where
  pub key_list : KeyList
  pub path : Path
  pub table : Table text cells n key_list
  pub place_is : place_of key_list path ≡ place

-- and what it says of it: for whichever key list and path that is
abbrev pub OfPlace : Bytes → List ℕ → ℕ → ℕ → (KeyList → Path → Type 0) → Type 0
OfPlace text cells n place P = (K : KeyList) (p : Path) → Table text cells n K → place_of K p ≡ place → P K p
