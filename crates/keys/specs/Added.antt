-- The cells of a line that was added to a table, and what that table then is.
use Rattle.std.specs.Prelude.{ℕ, ◌+◌, ◌*◌, ◌-◌, ◌%◌, ◌<◌, ◌≤◌, ◌≡◌, not, List, [], eqb, length, get_or}
use Rattle.std.proofs.Math.Seq.{slice}
use Rattle.xml.specs.Bytes.{Bytes}
use Rattle.keys.specs.Table.{name_start, name_end, bit_of}

-- the path number i is a key name's, that of line number n
pub record KeyCell (text : Bytes) (cells : List ℕ) (n e i : ℕ) (m : Bytes) : Type 0 where
  pub within : name_end cells i ≤ e
  pub name-is : slice (name_start cells i) (name_end cells i) text ≡ m
  pub tail : get_or cells (2 * i + 1) 0 ≡ n * 16

-- after the n paths of the table stands a line's, whose name is text[a..b] and whose context is at the place c, and those of its key names, which end at e
pub record Added (text : Bytes) (cells cells' : List ℕ) (n c a b e : ℕ) (ns : List Bytes) : Type 0 where
  pub size : length cells' ≡ length cells
  pub heads : (i : ℕ) → i < n → get_or cells' (2 * i) 0 ≡ get_or cells (2 * i) 0
  pub tails : (i : ℕ) → i < n → (i ≡ c → ⊥) → get_or cells' (2 * i + 1) 0 ≡ get_or cells (2 * i + 1) 0
  pub context : get_or cells' (2 * c + 1) 0 ≡ get_or cells (2 * c + 1) 0 + (1 - get_or cells (2 * c + 1) 0 % 2)
  pub head : get_or cells' (2 * n) 0 ≡ a * 64 + (b - a)
  pub tail : get_or cells' (2 * n + 1) 0 ≡ c * 16 + length ns * 2 + bit_of (not (eqb (length ns) 0))
  pub keys : (j : ℕ) → j < length ns → KeyCell text cells' n e (n + 1 + j) (get_or ns j [])
