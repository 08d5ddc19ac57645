-- What a call over a table by value gives: the length of the result, and the table after it, which is that of before where it is refused.
use Rattle.std.specs.Prelude.{ℕ, List, ◌≡◌, refl, Result, Ok, Err}
use Rattle.std.proofs.Common.{arith, sym, ne_eqb}
use Rattle.xml.specs.Bytes.{Bytes}
use Rattle.keys.specs.Meant.{row_of, number_in}
use Rattle.keys.specs.Result.{number_of}
use Rattle.keys.specs.declared.refusal.Refusal.{Refusal}
use Rattle.marks.specs.declared.Mark.{Mark}
use Rattle.marks.specs.Marks.{table_bytes}
use Rattle.versions.specs.CallLaws.{number_of-pos}
use Rattle.archive.specs.Entries.{bytes_left}
use Rattle.firmware.specs.declared.cells.Stepped.{Stepped}

abbrev pub length_left : Result Stepped Refusal → ℕ
length_left (Ok s) = s.length
length_left (Err v) = 0

-- its entries, and its bytes in C
abbrev pub entries_left : List Mark → Result Stepped Refusal → List Mark
entries_left held (Ok s) = s.table.held
entries_left held (Err v) = held

abbrev pub bytes_after : Result Stepped Refusal → Bytes → Bytes
bytes_after (Ok s) bytes = table_bytes s.table.held
bytes_after (Err v) bytes = bytes

pub bytes-after : (r : Result Stepped Refusal) (held : List Mark) (s : Bytes) → bytes_after r s ≡ bytes_left (number_in r) (entries_left held r) s
bytes-after (Ok t) held s = refl
bytes-after (Err v) held s = sym (rw (ne_eqb (number_of (row_of v)) 0 (λ z. omega (arith, number_of-pos (row_of v))), bytes_left) refl)
