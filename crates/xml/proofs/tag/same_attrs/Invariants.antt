-- `xml::tag::same_attrs` meets its contract: the attributes passed mean the same (TagSame). Assumes nothing.
use lib.ListN.{length}
use Rattle.xml.specs.TagParts.{sorted_from}
use Rattle.xml.specs.TagSame.{Comparing}
use Rattle.xml.proofs.tag.same_attrs.Given as goal

abbrev pub invariant-loop-i : goal.invariant-loop-i
invariant-loop-i l = Comparing l.s1 l.i l.s2 l.j

abbrev pub decreases-loop-i : goal.decreases-loop-i
decreases-loop-i l = length (sorted_from l.s1 l.i)
