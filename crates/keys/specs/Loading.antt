-- What the functions that load a key list ask and answer.
use Rattle.std.specs.Prelude.{None, Option, Some, Result, Ok, Err, ℕ, ◌+◌, ◌*◌, ◌<◌, ◌≤◌, ◌≡◌, Bool, true, false, not, ◌&&◌, ◌||◌, List, [], ◌∷◌, ltb, leb, length, get_or, take}
use Rattle.std.proofs.Math.Seq.{slice}
use Rattle.xml.specs.Bytes.{Bytes, any, same}
use Rattle.keys.specs.Result.{refused, r4}
use Rattle.keys.specs.Meant.{row_of}
use Rattle.keys.specs.KeyList.{KeyList, key_list}
use Rattle.keys.specs.Table.{Table, parent_in, keys_in}
use Rattle.keys.specs.Rows.{Row}
use Rattle.keys.specs.LineRead.{LineIs, InNotation, Upto}
use Rattle.keys.specs.Contexts.{ContextOf, LastIs}
use Rattle.keys.specs.Added.{KeyCell, Added}
use Rattle.keys.specs.declared.contexts.Context.{Context}
use Rattle.keys.specs.declared.contexts.Last.{Last}
use Rattle.keys.specs.declared.refusal.Refusal.{Refusal}

-- the cells are some key list's table
pub record Tabled (text : Bytes) (cells : List ℕ) (n : ℕ) : Type 0 where
  pub keys : KeyList
  pub table : Table text cells n keys

-- the path number i comes right after its parent, as one of its key names
abbrev pub implied_in : List ℕ → ℕ → Bool
implied_in cells i = ltb (parent_in cells i) i && leb i (parent_in cells i + keys_in cells (parent_in cells i))

-- the path number i is a line's
abbrev pub line_in : List ℕ → ℕ → ℕ → Bool
line_in cells n i = ltb i n && not (implied_in cells i)

-- an answer to a question
abbrev pub Decides : Bool → Type 0 → Type 0
Decides true P = P
Decides false P = P → ⊥

-- the name text[a..b] or a key name is `T`
abbrev pub HasT : Bytes → ℕ → ℕ → ℕ → Bool → Type 0
HasT text a b e r = (ns : List Bytes) → Row 2 text e (b + 1) ns → r ≡ (same (slice a b text) (84 ∷ []) || any (same (84 ∷ [])) ns)

abbrev pub Small : ℕ → ℕ → ℕ → Type 0
Small depth keys n = (depth + 1 ≤ 8) × (0 < keys → depth + 2 ≤ 8) × (n + 1 + keys ≤ 128)

-- ---- writing a line's entries
pub record KeysRoom (text : Bytes) (cells : List ℕ) (n from e : ℕ) : Type 0 where
  pub names : List Bytes
  pub row : Row 2 text e from names
  pub room : 2 * (n + 1 + length names) ≤ length cells
  pub few : n ≤ 128
  pub short : length text ≤ 4096

pub record KeysPut (text : Bytes) (cells cells' : List ℕ) (n from e : ℕ) : Type 0 where
  pub size : length cells' ≡ length cells
  pub below : (x : ℕ) → x < 2 * (n + 1) → get_or cells' x 0 ≡ get_or cells x 0
  pub keys : (ns : List Bytes) → Row 2 text e from ns → (j : ℕ) → j < length ns → KeyCell text cells' n e (n + 1 + j) (get_or ns j [])

pub record LineRoom (text : Bytes) (cells : List ℕ) (n place context name names keys : ℕ) : Type 0 where
  pub key-room : KeysRoom text cells n (name + 1) names
  pub counted : keys ≡ length key-room.names
  pub few-keys : keys ≤ 4
  pub placed : place < n
  pub name-from : context + 3 ≤ name
  pub name-within : name ≤ length text
  pub small : name ≤ context + 3 + 32

abbrev pub LinePut : Bytes → List ℕ → List ℕ → ℕ → ℕ → ℕ → ℕ → ℕ → ℕ → Type 0
LinePut text cells cells' n place context name names keys = (ns : List Bytes) → Row 2 text names (name + 1) ns → keys ≡ length ns → Added text cells cells' n place (context + 3) name names ns

-- ---- line by line
-- a line breaks a rule; 4 is returned for it where 3 does not apply
abbrev pub Breaks : Bytes → Type 0
Breaks text = InNotation text → key_list text ≡ refused r4

-- the lines up to `at` keep the rules, the cells are their table, and this is kept of the last of them
pub record Building (text : Bytes) (cells : List ℕ) (at n lines : ℕ) (last : Last) : Type 0 where
  pub upto : Upto text at
  pub table : Table (take at text) cells n upto.done
  pub last-is : LastIs text upto.done last
  pub counted : lines ≡ length upto.done
  pub later : at ≡ 0 → ⊥
  pub room : length cells ≡ 256
  pub short : length text ≤ 4096

pub record Adding (text : Bytes) (cells : List ℕ) (at n lines : ℕ) (here : Context) (context name names : ℕ) : Type 0 where
  pub last : Last
  pub built : Building text cells at n lines last
  pub line : LineIs text at context name names
  pub here-is : ContextOf text at cells n (at + 1) context here

abbrev pub AddRead : Bytes → List ℕ → ℕ → ℕ → Last → Option ℕ → Type 0
AddRead text cells lines names last (Some m) = Building text cells (names + 4) m (lines + 1) last
AddRead text cells lines names last None = Breaks text

-- what loading a key list answers
abbrev pub LoadRead : Bytes → List ℕ → Result ℕ Refusal → Type 0
LoadRead text cells (Ok n) = (K : KeyList) × Table text cells n K
LoadRead text cells (Err w) = key_list text ≡ refused (row_of w)
