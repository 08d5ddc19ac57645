-- `legality::few::are_few` meets its contract. The loop's invariant: k siblings are passed. Assumes nothing.
use Prim.Native.Nat.{◌+◌, ◌-◌, ◌≤◌}
use mathlib.Core.Path.{◌≡◌}
use Rattle.xml.specs.Forest.{Forest}
use Rattle.xml.specs.Tape.{Tape, Valid}
use Rattle.legality.specs.Few.{siblings}
use Rattle.legality.proofs.few.are_few.Given as goal

abbrev pub invariant-loop-p : goal.invariant-loop-p
invariant-loop-p l = (l.k ≤ 4) × Valid l.doc.src.now l.doc.tape.now l.p l.hi × ((f g : Forest) → Tape l.doc.src.now l.doc.tape.now l.lo l.hi f → Tape l.doc.src.now l.doc.tape.now l.p l.hi g → siblings f ≡ l.k + siblings g)

abbrev pub decreases-loop-p : goal.decreases-loop-p
decreases-loop-p l = l.hi - l.p
