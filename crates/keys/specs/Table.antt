-- The table of a key list: its paths in order (`paths`), two cells a path. The first is start * 64 + count of the name's bytes in the key
-- list's text; the second is parent * 16 + keys * 2 + inner: the place of the path without its last name, the number of key names (whose
-- paths come next in the table), and 1 where another path continues it.
use Rattle.std.specs.Prelude.{ℕ, suc, ◌+◌, ◌*◌, ◌/◌, ◌%◌, ◌<◌, ◌≤◌, ◌≡◌, Bool, true, false, List, [], ◌∷◌, length, get_or}
use Rattle.std.proofs.Math.Seq.{slice}
use Rattle.xml.specs.Bytes.{Bytes}
use Rattle.keys.specs.Result.{ok}
use Rattle.keys.specs.KeyList.{Path, KeyList, key_list, paths, same_path, listed, above, key_names_at}
use Rattle.keys.specs.Version.{◌▸◌}

-- where a path stands among others: its number, or how many there are
unfoldable pub index_in : List Path → Path → ℕ
index_in [] p = 0
index_in (q ∷ qs) p = elim (same_path p q) [ true ↦ 0 | false ↦ suc (index_in qs p) ]

-- the place of a path: 128 for the empty one, above the root; its number in the list; 129 for one that is not of the list
unfoldable pub place_of : KeyList → Path → ℕ
place_of K [] = 128
place_of K (n ∷ p) = elim (listed K (n ∷ p)) [ true ↦ index_in (paths K) (n ∷ p) | false ↦ 129 ]

abbrev pub name_start : List ℕ → ℕ → ℕ
name_start cells i = get_or cells (2 * i) 0 / 64

abbrev pub name_end : List ℕ → ℕ → ℕ
name_end cells i = get_or cells (2 * i) 0 / 64 + get_or cells (2 * i) 0 % 64

abbrev pub parent_in : List ℕ → ℕ → ℕ
parent_in cells i = get_or cells (2 * i + 1) 0 / 16

abbrev pub keys_in : List ℕ → ℕ → ℕ
keys_in cells i = get_or cells (2 * i + 1) 0 / 2 % 8

abbrev pub inner_in : List ℕ → ℕ → ℕ
inner_in cells i = get_or cells (2 * i + 1) 0 % 2

abbrev pub bit_of : Bool → ℕ
bit_of true = 1
bit_of false = 0

-- path number i of the table is p, whose parent is q and whose name is m
pub record Entry (text : Bytes) (cells : List ℕ) (K : KeyList) (i : ℕ) : Type 0 where
  pub parent : Path
  pub name : Bytes
  pub path-is : get_or (paths K) i [] ≡ parent ▸ name
  pub within : name_end cells i ≤ length text
  pub name-is : slice (name_start cells i) (name_end cells i) text ≡ name
  pub parent_is : parent_in cells i ≡ place_of K parent
  pub keys-are : keys_in cells i ≡ length (key_names_at K (parent ▸ name))
  pub key-paths : (j : ℕ) → j < length (key_names_at K (parent ▸ name)) → get_or (paths K) (i + 1 + j) [] ≡ (parent ▸ name) ▸ get_or (key_names_at K (parent ▸ name)) j []
  pub inner-is : inner_in cells i ≡ bit_of (above K (parent ▸ name))

-- the cells hold the n paths of the key list K, whose text this is
pub record Table (text : Bytes) (cells : List ℕ) (n : ℕ) (K : KeyList) : Type 0 where
  pub accepted : key_list text ≡ ok K
  pub counted : n ≡ length (paths K)
  pub few : n ≤ 128
  pub held : 2 * n ≤ length cells
  pub short : length text ≤ 4096
  pub entry : (i : ℕ) → i < n → Entry text cells K i
