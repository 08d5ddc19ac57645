-- `keys::keyed::unkeyed_content` and `unkeyed_node` meet their contracts: the loop's answer is that of the nodes to come, and a node's is
-- that of its element's key children and of what it holds. The nodes left fall. Assumes nothing.
use Rattle.xml.specs.Tape.{next_at}
use Rattle.keys.specs.Walks.{Walk, OfNodes, Going}
use Rattle.keys.specs.Strays.{keyless}
use Prim.Native.Nat.{◌+◌, ◌*◌, ◌-◌, ◌≤◌}
use Rattle.keys.proofs.keyed.+unkeyed_content_unkeyed_node.Given as goal

abbrev pub decreases-unkeyed_content : goal.decreases-unkeyed_content
decreases-unkeyed_content l = 2 * (l.hi - l.lo) + 1

abbrev pub decreases-unkeyed_node : goal.decreases-unkeyed_node
decreases-unkeyed_node l = 2 * (next_at l.doc.now.tape.now l.p - l.p)

abbrev pub invariant-unkeyed_content-loop-p : goal.invariant-unkeyed_content-loop-p
invariant-unkeyed_content-loop-p l = (l.lo ≤ l.p) × Walk l.keys.text.now l.keys.table.now l.keys.paths l.place l.doc.src.now l.doc.tape.now l.p l.hi × OfNodes l.keys.text.now l.keys.table.now l.keys.paths l.place l.doc.src.now l.doc.tape.now l.lo l.hi (λ K q f. Going l.doc.src.now l.doc.tape.now l.p l.hi (keyless K q f) (keyless K q))

abbrev pub decreases-unkeyed_content-loop-p : goal.decreases-unkeyed_content-loop-p
decreases-unkeyed_content-loop-p l = l.hi - l.p
