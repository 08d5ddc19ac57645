-- What the panel's face answers, for every text, tape and output, and what it leaves in the output and on the tape. An answer is a pair: a number of
-- document 01's table, and the value that goes with it.
use Rattle.std.specs.Prelude.{ℕ, true, false, List, ltb, length, replicate, Result, Ok, Err}
use Rattle.xml.specs.Bytes.{Bytes}
use Rattle.xml.specs.Forest.{Forest, write}
use Rattle.xml.specs.Over.{over}
use Rattle.xml.specs.Read.{Outcome, whole, broken, read}
use Rattle.xml.specs.declared.ReadError.{ReadError}
use Rattle.xml.specs.declared.ReadError.TheVariants.{Wrong as ReadWrong, Full}
use Rattle.xml.specs.declared.panel.CanonError.{CanonError}
use Rattle.xml.specs.declared.panel.CanonError.TheVariants.{Long, Narrow, Wrong, Short}

-- why a text that was not read has no form
abbrev pub canon_error : ReadError → CanonError
canon_error (ReadWrong p) = Wrong p
canon_error Full = Narrow

-- the row of document 01's table that a case is: 0 success, 1 too few cells, 2 a text too long, 5 not in the XML subset, 14 an output too short
unfoldable pub canon_number : Result ℕ CanonError → ℕ
canon_number (Ok n) = 0
canon_number (Err Long) = 2
canon_number (Err Narrow) = 1
canon_number (Err (Wrong p)) = 5
canon_number (Err Short) = 14

-- the value that goes with it: the length of the form, or the place of the wrong byte
unfoldable pub canon_value : Result ℕ CanonError → ℕ
canon_value (Ok n) = n
canon_value (Err Long) = 0
canon_value (Err Narrow) = 0
canon_value (Err (Wrong p)) = p
canon_value (Err Short) = 0

-- a forest, and an output of so many bytes
unfoldable pub form_of : Forest → ℕ → ℕ × ℕ
form_of f room = elim (ltb room (length (write f))) [ true ↦ (14, 0) | false ↦ (0, length (write f)) ]

unfoldable pub form_out : Forest → List ℕ → List ℕ
form_out f out = elim (ltb (length out) (length (write f))) [ true ↦ out | false ↦ over out (write f) ]

-- what was read
unfoldable pub read_of : Outcome → ℕ → ℕ × ℕ
read_of (whole f) room = form_of f room
read_of (broken p) room = (5, p)

unfoldable pub read_out : Outcome → List ℕ → List ℕ
read_out (whole f) out = form_out f out
read_out (broken p) out = out

-- a text, the number of the tape's cells, and the output
unfoldable pub canonical_of : Bytes → ℕ → ℕ → ℕ × ℕ
canonical_of s cells room =
    elim (ltb 16384 (length s)) [
      | true ↦ (2, 0)
      | false ↦ elim (ltb cells (length s)) [ true ↦ (1, 0) | false ↦ read_of (read false s) room ]
    ]

unfoldable pub canonical_out : Bytes → ℕ → List ℕ → List ℕ
canonical_out s cells out =
    elim (ltb 16384 (length s)) [
      | true ↦ out
      | false ↦ elim (ltb cells (length s)) [ true ↦ out | false ↦ read_out (read false s) out ]
    ]

-- "After every call the work cells are all zero": the tape as well, but for what is refused before it is touched
unfoldable pub canonical_tape : Bytes → List ℕ → List ℕ
canonical_tape s cells =
    elim (ltb 16384 (length s)) [
      | true ↦ cells
      | false ↦ elim (ltb (length cells) (length s)) [ true ↦ cells | false ↦ replicate (length cells) 0 ]
    ]
