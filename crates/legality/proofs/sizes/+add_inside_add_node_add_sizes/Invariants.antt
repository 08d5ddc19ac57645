-- `legality::sizes::add_inside`, `add_node` and `add_sizes` meet their contracts: the nodes inside one are fewer. The loop's invariant
-- (`Going`): the nodes passed are measured. Assumes nothing.
use Rattle.xml.specs.Forest.{Forest}
use Rattle.xml.specs.Tape.{Tape, next_at}
use Rattle.legality.specs.Going.{Going}
use Prim.Native.Nat.{◌+◌, ◌*◌, ◌-◌, ◌≤◌}
use Rattle.legality.proofs.sizes.+add_inside_add_node_add_sizes.Given as goal

abbrev pub decreases-add_inside : goal.decreases-add_inside
decreases-add_inside l = 3 * (l.hi - l.lo) + 2

abbrev pub decreases-add_node : goal.decreases-add_node
decreases-add_node l = 3 * (next_at l.doc.now.tape.now l.p - l.p)

abbrev pub decreases-add_sizes : goal.decreases-add_sizes
decreases-add_sizes l = 3 * (l.hi - l.lo) + 1

abbrev pub invariant-add_sizes-loop-p : goal.invariant-add_sizes-loop-p
invariant-add_sizes-loop-p l = (l.lo ≤ l.p) × ((f : Forest) → Tape l.doc.src.now l.doc.tape.now l.lo l.hi f → Going l.doc.src.now l.doc.tape.now l.lo l.p l.hi l.left l.timed f l.n l.b l.initial.nodes l.nodes l.initial.bytes l.bytes)

abbrev pub decreases-add_sizes-loop-p : goal.decreases-add_sizes-loop-p
decreases-add_sizes-loop-p l = l.hi - l.p
