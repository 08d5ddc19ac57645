-- `xml::tag::put_value` meets its contract: of the value, what stands before i is written, and the rest is left. Assumes nothing.
use Prim.Native.Nat.{◌-◌, ◌≤◌}
use lib.ListN.{length}
use lib.Seq.{slice}
use Rattle.xml.specs.WriteLaws.{Left}
use Rattle.xml.specs.TagParts.{quoted}
use Rattle.xml.proofs.tag.put_value.Given as goal

abbrev pub invariant-loop-i : goal.invariant-loop-i
invariant-loop-i l = (l.i ≤ length l.value) × Left (quoted l.value) (quoted (slice l.i (length l.value) l.value)) l.initial.out l.initial.to l.to l.out

abbrev pub decreases-loop-i : goal.decreases-loop-i
decreases-loop-i l = length l.value - l.i
