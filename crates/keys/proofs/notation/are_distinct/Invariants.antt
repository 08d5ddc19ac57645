-- The names from i on are distinct exactly if all are.
use Prim.Native.Nat.{◌-◌}
use Rattle.xml.specs.Bytes.{distinct, same}
use Rattle.keys.specs.Rows.{Rowed}
use Rattle.keys.proofs.RowLaws.{Along}
use Rattle.keys.proofs.notation.are_distinct.Given as goal

abbrev pub invariant-loop-i : goal.invariant-loop-i
invariant-loop-i l = Rowed 2 l.text l.end l.i × Along 2 l.text l.end (distinct same) l.from l.i

abbrev pub decreases-loop-i : goal.decreases-loop-i
decreases-loop-i l = l.end - l.i
