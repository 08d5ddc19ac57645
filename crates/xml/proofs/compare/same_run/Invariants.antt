-- `xml::compare::same_run` meets its contract: the runs mean the same where what is left of them does. Assumes nothing.
use Prim.Native.Nat.{◌-◌, ◌≤◌}
use mathlib.Core.Path.{◌≡◌}
use lib.ListN.{length}
use lib.Seq.{slice}
use Rattle.xml.specs.Bytes.{same}
use Rattle.xml.specs.Read.{unescape}
use Rattle.xml.proofs.compare.same_run.Given as goal

abbrev pub invariant-loop-i : goal.invariant-loop-i
invariant-loop-i l = (l.i ≤ length l.run1) × (l.j ≤ length l.run2) × (same (unescape 0 l.run1) (unescape 0 l.run2) ≡ same (unescape 0 (slice l.i (length l.run1) l.run1)) (unescape 0 (slice l.j (length l.run2) l.run2)))

abbrev pub decreases-loop-i : goal.decreases-loop-i
decreases-loop-i l = length l.run1 - l.i
