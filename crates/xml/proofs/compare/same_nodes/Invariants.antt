-- `xml::compare::same_nodes` meets its contract: the nodes passed agree; where two do not, the forests differ (SameTapes). Assumes nothing.
use Prim.Native.Nat.{◌+◌, ◌-◌, ◌≤◌}
use mathlib.Core.Path.{◌≡◌}
use Rattle.xml.specs.SameTapes.{Agree}
use Rattle.xml.proofs.compare.same_nodes.Given as goal

abbrev pub invariant-loop-i : goal.invariant-loop-i
invariant-loop-i l = (l.lo1 ≤ l.i) × (l.i ≤ l.hi1) × (l.lo2 ≤ l.j) × (l.i + l.lo2 ≡ l.j + l.lo1) × Agree l.doc1.src.now l.doc1.tape.now l.lo1 l.i l.doc2.src.now l.doc2.tape.now l.lo2

abbrev pub decreases-loop-i : goal.decreases-loop-i
decreases-loop-i l = l.hi1 - l.i
