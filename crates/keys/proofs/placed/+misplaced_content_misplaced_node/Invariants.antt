-- `keys::placed::misplaced_content` and `misplaced_node` meet their contracts: the loop's answer is that of the nodes to come, and a node's is
-- that of its element's name and of what it holds. The nodes left fall. Assumes nothing.
use Rattle.xml.specs.Tape.{next_at}
use Rattle.keys.specs.Walks.{Walk, OfNodes, Going}
use Rattle.keys.specs.Strays.{astray}
use Prim.Native.Nat.{◌+◌, ◌*◌, ◌-◌, ◌≤◌}
use Rattle.keys.proofs.placed.+misplaced_content_misplaced_node.Given as goal

abbrev pub decreases-misplaced_content : goal.decreases-misplaced_content
decreases-misplaced_content l = 2 * (l.hi - l.lo) + 1

abbrev pub decreases-misplaced_node : goal.decreases-misplaced_node
decreases-misplaced_node l = 2 * (next_at l.doc.now.tape.now l.p - l.p)

abbrev pub invariant-misplaced_content-loop-p : goal.invariant-misplaced_content-loop-p
invariant-misplaced_content-loop-p l = (l.lo ≤ l.p) × Walk l.keys.text.now l.keys.table.now l.keys.paths l.place l.doc.src.now l.doc.tape.now l.p l.hi × OfNodes l.keys.text.now l.keys.table.now l.keys.paths l.place l.doc.src.now l.doc.tape.now l.lo l.hi (λ K q f. Going l.doc.src.now l.doc.tape.now l.p l.hi (astray K q f) (astray K q))

abbrev pub decreases-misplaced_content-loop-p : goal.decreases-misplaced_content-loop-p
decreases-misplaced_content-loop-p l = l.hi - l.p
