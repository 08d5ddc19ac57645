use mathlib.Core.Path.{◌≡◌}
use Rattle.marks.specs.Marks.{marks_from}
use Rattle.marks.specs.Lent.{over, blanks}
use Rattle.marks.proofs.bytes.table_from.Given as goal

abbrev pub invariant-loop-i : goal.invariant-loop-i
invariant-loop-i l = l.held ≡ over l.i (marks_from 32 l.s) blanks
