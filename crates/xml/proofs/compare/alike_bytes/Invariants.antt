-- `xml::compare::alike_bytes` meets its contract. The invariant: it holds of the number reached. Assumes nothing.
use Prim.Native.Nat.{◌-◌, ◌≤◌}
use Rattle.xml.specs.Alike.{Alike}
use Rattle.xml.proofs.compare.alike_bytes.Given as goal

abbrev pub invariant-loop-n : goal.invariant-loop-n
invariant-loop-n l = (l.n ≤ l.count) × Alike l.src1 l.i l.src2 l.j l.n

abbrev pub decreases-loop-n : goal.decreases-loop-n
decreases-loop-n l = l.count - l.n
