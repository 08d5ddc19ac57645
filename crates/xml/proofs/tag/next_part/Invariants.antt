-- `xml::tag::next_part` meets its contract: of the attributes before the place i, the nearest stands at `best`. Assumes nothing.
use Prim.Native.Nat.{◌-◌}
use lib.ListN.{length}
use lib.Seq.{slice}
use Rattle.xml.specs.NextPart.{Seeking}
use Rattle.xml.proofs.tag.next_part.Given as goal

abbrev pub invariant-loop-i : goal.invariant-loop-i
invariant-loop-i l = Seeking l.s (slice l.a l.e l.s) l.best l.i

abbrev pub decreases-loop-i : goal.decreases-loop-i
decreases-loop-i l = length l.s - l.i
