-- `xml::writer::put_text` meets its contract: of the run from i₀ on, what stands before i is written, and the rest is left. Assumes nothing.
use Prim.Native.Nat.{◌-◌, ◌≤◌}
use lib.ListN.{length}
use lib.Seq.{slice}
use Rattle.xml.specs.Signs.{spelt}
use Rattle.xml.specs.WriteLaws.{Left}
use Rattle.xml.proofs.writer.put_text.Given as goal

-- since the loop began, the run from i₀ on was written up to i
abbrev pub invariant-loop-i : goal.invariant-loop-i
invariant-loop-i l = (l.initial.i ≤ l.i) × (l.i ≤ length l.part) × Left (spelt (slice l.initial.i (length l.part) l.part)) (spelt (slice l.i (length l.part) l.part)) l.initial.out l.initial.to l.to l.out

abbrev pub decreases-loop-i : goal.decreases-loop-i
decreases-loop-i l = length l.part - l.i
