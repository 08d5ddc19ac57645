-- The names of a tag's attributes, noted in cells: one cell a name, start * 64 + count of the bytes of the text that are the name, in
-- ascending order.
use Rattle.std.specs.Prelude.{ℕ, ◌+◌, ◌*◌, ◌/◌, ◌%◌, ◌<◌, ◌≤◌, ◌≡◌, true, false, List, length, get_or}
use Rattle.std.proofs.Math.Seq.{slice}
use Rattle.xml.specs.Bytes.{Bytes, any, same}
use Rattle.xml.specs.Tags.{less}

abbrev pub cell_of : ℕ → ℕ → ℕ
cell_of start count = start * 64 + count

-- the name that a cell holds
abbrev pub name_in : List ℕ → ℕ → Bytes
name_in src cell = slice (cell / 64) (cell / 64 + cell % 64) src

-- it lies within the text
pub record InText (src : List ℕ) (cell : ℕ) : Type 0 where
  pub within : cell / 64 + cell % 64 ≤ length src
  pub short : cell % 64 ≤ 32

-- of the cells from `base` on, the i-th, and its name
abbrev pub cell_at : List ℕ → ℕ → ℕ → ℕ
cell_at cells base i = get_or cells (base + i) 0

abbrev pub name_at : List ℕ → List ℕ → ℕ → ℕ → Bytes
name_at src cells base i = name_in src (cell_at cells base i)

-- the k cells from `base` on hold the names that are used, each once
pub record NameCells (src cells : List ℕ) (base k : ℕ) (used : List Bytes) : Type 0 where
  pub room : base + k ≤ length cells
  pub in-text : (i : ℕ) → i < k → InText src (cell_at cells base i)
  pub ascends : (i j : ℕ) → i < j → j < k → less (name_at src cells base i) (name_at src cells base j) ≡ true
  pub is-used : (i : ℕ) → i < k → any (same (name_at src cells base i)) used ≡ true
  pub held : (q : Bytes) → any (same q) used ≡ true → (i : ℕ) × (i < k) × (name_at src cells base i ≡ q)
  pub few : k ≤ length used

pub record SomeNames (src cells : List ℕ) (base k : ℕ) : Type 0 where
  pub used : List Bytes
  pub names : NameCells src cells base k used

-- of the k names those below lo come before a name, those from hi on do not
pub record Parted (src cells : List ℕ) (base k : ℕ) (name : Bytes) (lo hi : ℕ) : Type 0 where
  pub low : lo ≤ hi
  pub high : hi ≤ k
  pub before : (i : ℕ) → i < lo → less (name_at src cells base i) name ≡ true
  pub after : (i : ℕ) → hi ≤ i → i < k → less (name_at src cells base i) name ≡ false

-- the cells lo to hi stand one further
pub record Shifted (cells : List ℕ) (lo hi : ℕ) (new : List ℕ) : Type 0 where
  pub long : length new ≡ length cells
  pub kept : (i : ℕ) → i ≤ lo → get_or new i 0 ≡ get_or cells i 0
  pub moved : (i : ℕ) → lo ≤ i → i < hi → get_or new (i + 1) 0 ≡ get_or cells i 0

-- the cells below `base` are as they were
pub record Below (before cells : List ℕ) (base : ℕ) : Type 0 where
  pub long : length cells ≡ length before
  pub kept : (i : ℕ) → i < base → get_or cells i 0 ≡ get_or before i 0
