-- `xml::compare::has_unlike` meets its contract. The invariant: where there was no hit, the bytes passed are alike. Assumes nothing.
use Prim.Native.Nat.{◌-◌, ◌≤◌}
use mathlib.Core.Path.{◌≡◌}
use mathlib.Core.Bool.{false}
use Rattle.xml.specs.Alike.{Alike}
use Rattle.xml.proofs.compare.has_unlike.Given as goal

abbrev pub invariant-loop-k : goal.invariant-loop-k
invariant-loop-k l = (l.k ≤ 16) × (l.hit ≡ false → Alike l.src1 l.i l.src2 l.j l.k)

abbrev pub decreases-loop-k : goal.decreases-loop-k
decreases-loop-k l = 16 - l.k
