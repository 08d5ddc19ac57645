-- `legality::bounds::bound`, `bound_inside` and `bound_node` meet their contracts: the nodes inside one are fewer. The loop's invariant
-- (`Gone`): what a version has of the nodes passed. Assumes nothing.
use Rattle.xml.specs.Tape.{next_at}
use Rattle.legality.specs.Bounds.{Gone}
use Prim.Native.Nat.{◌+◌, ◌*◌, ◌-◌}
use Rattle.legality.proofs.bounds.+bound_bound_inside_bound_node.Given as goal

abbrev pub decreases-bound : goal.decreases-bound
decreases-bound l = 3 * (l.hi - l.lo) + 1

abbrev pub decreases-bound_inside : goal.decreases-bound_inside
decreases-bound_inside l = 3 * (l.hi - l.lo) + 2

abbrev pub decreases-bound_node : goal.decreases-bound_node
decreases-bound_node l = 3 * (next_at l.doc.now.tape.now l.p - l.p)

abbrev pub invariant-bound-loop-p : goal.invariant-bound-loop-p
invariant-bound-loop-p l = Gone l.doc.src.now l.doc.tape.now l.lo l.p l.hi l.left l.nodes l.bytes l.most_nodes l.most_bytes

abbrev pub decreases-bound-loop-p : goal.decreases-bound-loop-p
decreases-bound-loop-p l = l.hi - l.p
