-- `legality::few::is_new` meets its contract. The loop's invariant (`Sought`): the content is among all nodes just where it is among those
-- left. Assumes nothing.
use Prim.Native.Nat.{◌-◌}
use Rattle.xml.specs.Forest.{Forest}
use Rattle.xml.specs.Tape.{Tape}
use Rattle.versions.specs.Branches.{Sought}
use Rattle.legality.proofs.few.is_new.Given as goal

abbrev pub invariant-loop-p : goal.invariant-loop-p
invariant-loop-p l = (d k : Forest) → Tape l.doc.src.now l.doc.tape.now l.lo l.hi d → Tape l.doc.src.now l.doc.tape.now l.a l.e k → Sought l.doc.src.now l.doc.tape.now l.p l.hi k d

abbrev pub decreases-loop-p : goal.decreases-loop-p
decreases-loop-p l = l.hi - l.p
