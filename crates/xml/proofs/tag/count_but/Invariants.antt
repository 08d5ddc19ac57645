-- `xml::tag::count_but` meets its contract: n attributes of other names stand before the place i. Assumes nothing.
use Prim.Native.Nat.{◌-◌}
use lib.ListN.{length}
use Rattle.xml.specs.Bytes.{bytes}
use Rattle.xml.specs.Tags.{parts, count_but}
use Rattle.xml.specs.TagSums.{Summed, other}
use Rattle.xml.proofs.tag.count_but.Given as goal

abbrev pub invariant-loop-i : goal.invariant-loop-i
invariant-loop-i l = Summed (other (bytes "t")) l.s (count_but (bytes "t") (parts 0 l.s)) l.i l.n

abbrev pub decreases-loop-i : goal.decreases-loop-i
decreases-loop-i l = length l.s - l.i
