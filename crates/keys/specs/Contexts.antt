-- The contexts of lines: what is kept of a line, and what it says of the context of the line after it.
use Rattle.std.specs.Prelude.{ℕ, ◌+◌, ◌<◌, ◌≤◌, ◌≡◌, Bool, true, false, ◌&&◌, ◌||◌, List, [], ◌∷◌, ◌++◌, eqb, length, take, drop}
use Rattle.std.proofs.Math.Seq.{slice}
use Rattle.xml.specs.Bytes.{Bytes, all, same, is_name}
use Rattle.keys.specs.KeyList.{Path, Key, KeyList, path, write_path}
use Rattle.keys.specs.Table.{place_of, Table}
use Rattle.keys.specs.Notation.{Noted}
use Rattle.keys.specs.Rows.{Row}
use Rattle.keys.specs.LineRead.{LineIs}
use Rattle.keys.specs.declared.contexts.Context.{Context}
use Rattle.keys.specs.declared.contexts.Known.{Known}
use Rattle.keys.specs.declared.contexts.Last.{Last}

-- the place of the path whose names stand in a row
abbrev pub PlaceOfRow : Bytes → ℕ → List ℕ → ℕ → ℕ → ℕ → ℕ → Type 0
PlaceOfRow text at cells n from e r = (K : KeyList) (p : Path) → Table (take at text) cells n K → Row 1 text e from p → r ≡ place_of K p

-- how many names stand in a row
abbrev pub CountOfRow : ℕ → Bytes → ℕ → ℕ → ℕ → Type 0
CountOfRow d text from e r = (ns : List Bytes) → Row d text e from ns → r ≡ length ns

-- the context whose names stand in a row
abbrev pub ContextOf : Bytes → ℕ → List ℕ → ℕ → ℕ → ℕ → Context → Type 0
ContextOf text at cells n from e r = PlaceOfRow text at cells n from e r.place × CountOfRow 1 text from e r.depth

-- the parts of a line that are kept stand in the text
pub record PartsIn (text : Bytes) (l : Last) : Type 0 where
  pub from : l.start ≤ l.end
  pub to : l.end + 3 ≤ l.name
  pub within : l.name ≤ length text

-- what is kept of the line at a place, with this context and with the number n
abbrev pub last_of : ℕ → ℕ → ℕ → ℕ → Context → Last
last_of at c m n here = record { start = at + 1; end = c; name = m; context = here; own = n }

-- and of the first, whose context ends at c: nothing of its `/` is a name
abbrev pub first_of : ℕ → ℕ → Last
first_of c m = record { start = c; end = c; name = m; context = record { place = 128; depth = 0 }; own = 0 }

-- what is kept is of a line of the key list
pub record LastIs (text : Bytes) (K : KeyList) (l : Last) : Type 0 where
  pub key : Key
  pub key-noted : Noted key
  pub parts : PartsIn text l
  pub context-is : slice l.start l.end text ≡ write_path key.context
  pub name-is : slice (l.end + 3) l.name text ≡ key.name
  pub depth_is : l.context.depth ≡ length key.context
  pub short : l.context.depth ≤ 8
  pub place_is : place_of K key.context ≡ l.context.place
  pub own_is : place_of K (path key) ≡ l.own

-- a path ends before these bytes, or goes on with them
abbrev pub stops : Bytes → Bool
stops [] = false
stops (b ∷ s) = eqb b 44 || eqb b 47

-- the bytes s begin with w, where a path ends or goes on
abbrev pub stands_whole : Bytes → Bytes → Bool
stands_whole w s = same (take (length w) s) w && stops (drop (length w) s)

-- the line at a place has a context that begins with this path
pub record KnownIs (text : Bytes) (at : ℕ) (K : KeyList) (k : Known) : Type 0 where
  pub path : Path
  pub named : all is_name path ≡ true
  pub is : drop (at + 1) text ≡ write_path path ++ drop k.end text
  pub ends : k.end ≡ at + 1 + length (write_path path)
  pub within : k.end ≤ length text
  pub stop : 0 < length path → stops (drop k.end text) ≡ true
  pub place_is : place_of K path ≡ k.context.place
  pub depth_is : k.context.depth ≡ length path
  pub short : k.context.depth ≤ 9

-- the line at a place, whose context ends at c, comes after those of the table; so much is known of its context
pub record Contexting (text : Bytes) (cells : List ℕ) (at n : ℕ) (known : Known) (c : ℕ) : Type 0 where
  pub keys : KeyList
  pub table : Table (take at text) cells n keys
  pub known_is : KnownIs text at keys known
  pub later : at ≡ 0 → ⊥
  pub name : ℕ
  pub names : ℕ
  pub line : LineIs text at c name names
