-- `xml::tag::attr_count` meets its contract: n attributes stand before the place i. Assumes nothing.
use Prim.Native.Nat.{◌-◌}
use lib.ListN.{length}
use Rattle.xml.specs.Tags.{parts}
use Rattle.xml.specs.TagSums.{Summed}
use Rattle.xml.proofs.tag.attr_count.Given as goal

abbrev pub invariant-loop-i : goal.invariant-loop-i
invariant-loop-i l = Summed (λ x. 1) l.s (length (parts 0 l.s)) l.i l.n

abbrev pub decreases-loop-i : goal.decreases-loop-i
decreases-loop-i l = length l.s - l.i
