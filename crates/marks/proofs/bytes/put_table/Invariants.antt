use Rattle.marks.specs.BytesLaws.{Put}
use Rattle.marks.proofs.bytes.put_table.Given as goal

abbrev pub invariant-loop-i : goal.invariant-loop-i
invariant-loop-i l = Put l.t.held l.i l.initial.out l.out
