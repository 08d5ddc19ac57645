-- `find_key` meets its contract: the nodes left hold all elements of the name.
use Prim.Native.Nat.{◌-◌}
use Rattle.xml.specs.Forest.{Forest}
use Rattle.xml.specs.Tape.{Tape}
use Rattle.keys.specs.Version.{called}
use Rattle.keys.specs.Walks.{Going}
use Rattle.keys.proofs.label.find_key.Given as goal

abbrev pub invariant-loop-p : goal.invariant-loop-p
invariant-loop-p l = (f : Forest) → Tape l.doc.src.now l.doc.tape.now l.lo l.hi f → Going l.doc.src.now l.doc.tape.now l.p l.hi (called l.name f) (called l.name)

abbrev pub decreases-loop-p : goal.decreases-loop-p
decreases-loop-p l = l.hi - l.p
