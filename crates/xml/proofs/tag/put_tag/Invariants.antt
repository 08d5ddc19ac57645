-- `xml::tag::put_tag` meets its contract: of the attributes by ascending names, those from the place i on are left. Assumes nothing.
use mathlib.Core.List.{map}
use lib.ListN.{length}
use Rattle.xml.specs.Tags.{attr_text, sort, parts}
use Rattle.xml.specs.Read.{means}
use Rattle.xml.specs.WriteLaws.{Left}
use Rattle.xml.specs.TagParts.{sorted_from}
use Rattle.xml.specs.TagPlaces.{Reached}
use Rattle.xml.proofs.tag.put_tag.Given as goal

abbrev pub invariant-loop-i : goal.invariant-loop-i
invariant-loop-i l = Reached l.s l.i × Left (attr_text (map means (sort (parts 0 l.s)))) (attr_text (map means (sorted_from l.s l.i))) l.initial.out l.initial.to l.to l.out

abbrev pub decreases-loop-i : goal.decreases-loop-i
decreases-loop-i l = length (sorted_from l.s l.i)
