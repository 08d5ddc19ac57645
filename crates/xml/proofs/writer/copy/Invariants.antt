-- `xml::writer::copy` meets its contract: so many bytes were copied. Assumes nothing.
use mathlib.Core.Path.{◌≡◌}
use lib.Seq.{slice}
use Rattle.xml.specs.Over.{over_at}
use Rattle.xml.proofs.writer.copy.Given as goal

abbrev pub invariant-loop-i : goal.invariant-loop-i
invariant-loop-i l = l.out ≡ over_at l.initial.out l.from (slice 0 l.i l.word)
