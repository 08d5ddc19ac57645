-- What the functions on a table by value give.
use Rattle.std.specs.Prelude.{ℕ, true, false, List, [], ◌∷◌, ◌++◌, eqb, Result as Tried, Ok, Err}
use Rattle.xml.specs.Bytes.{Bytes}
use Rattle.marks.specs.declared.Mark.{Mark}
use Rattle.marks.specs.declared.Table.{Table}
use Rattle.keys.specs.Result.{Result, refused, ok, ◌>>=◌, ◌>>◌, number_of}
use Rattle.keys.specs.Meant.{meant}
use Rattle.keys.specs.declared.refusal.Refusal.{Refusal}
use Rattle.marks.specs.Marks.{Named, entries, legal_name, not_held, not_full, standing, find, setting, finding, marks_after, number}

abbrev pub mark_named : Bytes → ℕ → Named
mark_named s v = record { name = s; version = v }

-- the table that holds ks
abbrev pub holding : List Named → Table
holding ks = record { held = entries ks; size = 32 }

-- what is to be written back, and the version of a mark found
abbrev pub tabled : Result (List Named) → Result Table
tabled (refused r) = refused r
tabled (ok ks) = ok (holding ks)

abbrev pub version_in : Result Named → Result ℕ
version_in (refused r) = refused r
version_in (ok k) = ok k.version

-- that nothing is given but that it is done
abbrev pub done : {A : Type 0} → Result A → Result (Unit {0})
done (refused r) = refused r
done (ok a) = ok tt

-- ---- in the table of an archive whose versions were counted, or that is refused
abbrev pub setting_after : Tried ℕ Refusal → List Mark → Bytes → ℕ → Result (List Named)
setting_after counted ms name v = do
  n ← meant counted
  setting n ms name v

abbrev pub finding_after : Tried ℕ Refusal → List Mark → Bytes → Result Named
finding_after counted ms name = do
  n ← meant counted
  finding n ms name

-- ---- for a caller whose refusals are numbers: `before` is that under which the call is refused already, or 0
abbrev pub counted_after : ℕ → ℕ → Tried ℕ ℕ
counted_after before n = elim (eqb before 0) [ true ↦ Ok n | false ↦ Err before ]

-- that number, else the number of the result
unfoldable pub number_after : {A : Type 0} → ℕ → Result A → ℕ
number_after before X = elim (eqb before 0) [ true ↦ number X | false ↦ before ]

-- the lent table as it was, else as the result leaves it
unfoldable pub table_after : ℕ → Result (List Named) → List Mark → List Mark
table_after before X ms = elim (eqb before 0) [ true ↦ marks_after X ms | false ↦ ms ]

-- a refusal with that number, else what is found
abbrev pub found_by : Result Named → Tried ℕ ℕ
found_by (refused r) = Err (number_of r)
found_by (ok k) = Ok k.version

unfoldable pub found_after : ℕ → Result Named → Tried ℕ ℕ
found_after before X = elim (eqb before 0) [ true ↦ found_by X | false ↦ Err before ]

-- in a legal table that holds ks
abbrev pub setting_among : ℕ → List Named → Bytes → ℕ → Result (List Named)
setting_among n ks name v = do
  legal_name name
  not_held name ks
  not_full ks
  standing n v
  ok (ks ++ mark_named name v ∷ [])

abbrev pub finding_among : List Named → Bytes → Result Named
finding_among ks name = do
  legal_name name
  find name ks
