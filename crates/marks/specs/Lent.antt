-- A lent table and the table by value that is made of it.
use Rattle.std.specs.Prelude.{ℕ, Bool, true, false, List, [], ◌++◌, eqb, length, replicate, take, drop}
use Rattle.marks.specs.declared.Mark.{Mark}
use Rattle.marks.specs.declared.Table.{Table}
use Rattle.marks.specs.Marks.{unused}

-- 32 unused entries
unfoldable pub blanks : List Mark
blanks = replicate 32 unused

-- what `get_or` finds past the end of a list
abbrev pub past : Mark
past = record { name = []; len = 0; version = 0 }

-- the size of the table by value, for a lent one of n entries
abbrev pub pick : Bool → ℕ
pick true = 32
pick false = 0

abbrev pub size_for : ℕ → ℕ
size_for n = pick (eqb n 32)

-- the first n of s, and the rest of t
abbrev pub over : {A : Type 0} → ℕ → List A → List A → List A
over n s t = take n s ++ drop n t

abbrev pub blank_of : ℕ → Table
blank_of n = record { held = blanks; size = size_for n }

-- the table by value: the lent entries where there are 32
abbrev pub table_of : List Mark → Table
table_of ms = record { held = over (size_for (length ms)) ms blanks; size = size_for (length ms) }
