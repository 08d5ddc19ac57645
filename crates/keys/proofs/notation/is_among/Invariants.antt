-- The names from i on have the answer of all of them.
use Prim.Native.Nat.{◌-◌}
use Rattle.xml.specs.Bytes.{any, same}
use Rattle.keys.specs.Rows.{Rowed}
use Rattle.keys.proofs.RowLaws.{Along}
use Rattle.keys.proofs.notation.is_among.Given as goal

abbrev pub invariant-loop-i : goal.invariant-loop-i
invariant-loop-i l = Rowed 2 l.text l.end l.i × Along 2 l.text l.end (any (same l.word)) l.from l.i

abbrev pub decreases-loop-i : goal.decreases-loop-i
decreases-loop-i l = l.end - l.i
