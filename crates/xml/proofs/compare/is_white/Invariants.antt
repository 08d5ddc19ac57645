-- `xml::compare::is_white` meets its contract: what the run means is white where its raw bytes from i on are. Assumes nothing.
use Prim.Native.Nat.{◌-◌, ◌≤◌}
use mathlib.Core.Path.{◌≡◌}
use lib.ListN.{length}
use lib.Seq.{slice}
use Rattle.xml.specs.Bytes.{all, is_white}
use Rattle.xml.specs.Read.{unescape}
use Rattle.xml.proofs.compare.is_white.Given as goal

abbrev pub invariant-loop-i : goal.invariant-loop-i
invariant-loop-i l = (l.i ≤ length l.run) × (all is_white (unescape 0 l.run) ≡ all is_white (slice l.i (length l.run) l.run))

abbrev pub decreases-loop-i : goal.decreases-loop-i
decreases-loop-i l = length l.run - l.i
