-- `xml::tag::tag_len` meets its contract: n bytes are written of what stands before the place i. Assumes nothing.
use Prim.Native.Nat.{◌-◌}
use lib.ListN.{length}
use Rattle.xml.specs.Read.{tag_of}
use Rattle.xml.specs.TagSums.{Summed, written}
use Rattle.xml.proofs.tag.tag_len.Given as goal

abbrev pub invariant-loop-i : goal.invariant-loop-i
invariant-loop-i l = Summed written l.s (length (tag_of l.s)) l.i l.n

abbrev pub decreases-loop-i : goal.decreases-loop-i
decreases-loop-i l = length l.s - l.i
