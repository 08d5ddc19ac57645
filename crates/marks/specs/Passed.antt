-- The table by value that stands for the bytes that C passes.
use Rattle.std.specs.Prelude.{ℕ, ◌≤◌, List, ◌≡◌, length, replicate}
use Rattle.xml.specs.Bytes.{Bytes}
use Rattle.marks.specs.declared.Mark.{Mark}
use Rattle.marks.specs.declared.Table.{Table}
use Rattle.marks.specs.Marks.{marks_in, table_in}
use Rattle.marks.specs.Judging.{lent_of}

-- lent whole or as far as its size says, it is read as the table in the bytes is: the same marks, or 17; and of 608 bytes it is that table
pub record LendsAs (s : Bytes) (t : Table) : Type 0 where
  pub whole : (n : ℕ) → marks_in n t.held ≡ marks_in n (table_in s)
  pub lent : (n : ℕ) → marks_in n (lent_of t) ≡ marks_in n (table_in s)
  pub same : length s ≡ 608 → (t.held ≡ table_in s) × (t.size ≡ 32)
  pub few : t.size ≤ 32

-- an entry that no mark has, and a table of nothing else
abbrev pub wrong : Mark
wrong = record { name = replicate 16 0; len = 255; version = 0 }

unfoldable pub wrongs : List Mark
wrongs = replicate 32 wrong

abbrev pub unreadable : Table
unreadable = record { held = wrongs; size = 0 }
