-- `archive::open::count_nodes` meets its contract. The loop's invariant: what is counted, with the tally of the nodes left, is that of all
-- the nodes. Assumes nothing.
use Prim.Native.Nat.{◌+◌, ◌-◌, ◌≤◌}
use mathlib.Core.Path.{◌≡◌}
use Rattle.versions.specs.NodeCount.{tally}
use Rattle.legality.proofs.open.count_nodes.Given as goal

abbrev pub invariant-loop-i : goal.invariant-loop-i
invariant-loop-i l = (l.n ≤ l.i) × (l.n + tally l.doc.src.now l.doc.tape.now (l.hi - l.i) l.i ≡ tally l.doc.src.now l.doc.tape.now (l.hi - l.lo) l.lo)
