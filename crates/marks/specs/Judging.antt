-- What the functions that judge a table compute, step by step.
use Rattle.std.specs.Prelude.{ℕ, zero, suc, Bool, true, false, ◌&&◌, List, [], ◌∷◌, eqb, ltb, length, take, Option, Some, None, Result as Tried, Ok, Err}
use Rattle.xml.specs.Bytes.{Bytes, same, is_name_byte}
use Rattle.marks.specs.declared.Mark.{Mark}
use Rattle.marks.specs.declared.Table.{Table}
use Rattle.keys.specs.declared.refusal.Refusal.{Refusal}
use Rattle.keys.specs.declared.refusal.Refusal.TheVariants.{TableIllegal}
use Rattle.marks.specs.Marks.{is_mark, entry, named, held, same_mark, is_table}

-- k name bytes, then zeros
unfoldable pub padded : ℕ → Bytes → Bool
padded k [] = true
padded zero (b ∷ s) = eqb b 0 && padded zero s
padded (suc k) (b ∷ s) = is_name_byte b && padded k s

-- an entry in use: what it holds is a legal mark, and it is the entry of that mark
unfoldable pub is_entry : ℕ → Mark → Bool
is_entry n m = is_mark n (named m) && same_mark m (entry (named m))

-- how many entries there are before the first of length 0
unfoldable pub used_in : List Mark → ℕ
used_in [] = 0
used_in (m ∷ ms) = elim (eqb m.len 0) [ true ↦ 0 | false ↦ suc (used_in ms) ]

-- the place of the first one that is s, or how many there are
unfoldable pub place_in : Bytes → List Bytes → ℕ
place_in s [] = 0
place_in s (t ∷ ts) = elim (same s t) [ true ↦ 0 | false ↦ suc (place_in s ts) ]

-- that place, where there is one
abbrev pub placed : ℕ → ℕ → Option ℕ
placed i u = elim (ltb i u) [ true ↦ Some i | false ↦ None ]

-- the lent table that a table by value stands for
abbrev pub lent_of : Table → List Mark
lent_of t = take t.size t.held

-- how many marks a legal table holds, or its refusal
abbrev pub pick_judged : Bool → ℕ → Tried ℕ Refusal
pick_judged true u = Ok u
pick_judged false u = Err TableIllegal

abbrev pub judged : ℕ → List Mark → Tried ℕ Refusal
judged n ms = pick_judged (is_table n ms) (length (held ms))
