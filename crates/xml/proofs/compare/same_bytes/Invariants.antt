-- `xml::compare::same_bytes` meets its contract: the parts are the same where what is left of them is. Assumes nothing.
use Prim.Native.Nat.{◌≤◌}
use mathlib.Core.Path.{◌≡◌}
use lib.ListN.{length}
use lib.Seq.{slice}
use Rattle.xml.specs.Bytes.{same}
use Rattle.xml.proofs.compare.same_bytes.Given as goal

abbrev pub invariant-loop-i : goal.invariant-loop-i
invariant-loop-i l = (l.i ≤ length l.a) × (same l.a l.b ≡ same (slice l.i (length l.a) l.a) (slice l.i (length l.b) l.b))
