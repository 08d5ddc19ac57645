-- `keys::measure::measure_content` and `measure_node` meet their contracts: what is measured of all nodes is, after the sizes so far, what is
-- measured of the nodes to come. The nodes left fall. Assumes nothing.
use mathlib.Core.Path.{◌≡◌}
use mathlib.Core.Bool.{false}
use Rattle.xml.specs.Tape.{next_at}
use Rattle.keys.specs.Walks.{Walk, OfNodes, Going}
use Rattle.keys.specs.Measure.{Within, measured}
use Prim.Native.Nat.{◌+◌, ◌*◌, ◌-◌, ◌≤◌}
use Rattle.keys.proofs.measure.+measure_content_measure_node.Given as goal

abbrev pub decreases-measure_content : goal.decreases-measure_content
decreases-measure_content l = 2 * (l.hi - l.lo) + 1

abbrev pub decreases-measure_node : goal.decreases-measure_node
decreases-measure_node l = 2 * (next_at l.doc.now.tape.now l.p - l.p)

abbrev pub invariant-measure_content-loop-p : goal.invariant-measure_content-loop-p
invariant-measure_content-loop-p l = (l.lo ≤ l.p) × Walk l.keys.text.now l.keys.table.now l.keys.paths l.place l.doc.src.now l.doc.tape.now l.p l.hi × Within l.s × (l.s.over ≡ false)
    × OfNodes l.keys.text.now l.keys.table.now l.keys.paths l.place l.doc.src.now l.doc.tape.now l.lo l.hi (λ K q f. Going l.doc.src.now l.doc.tape.now l.p l.hi (measured K q l.depth f l.initial.s) (λ g. measured K q l.depth g l.s))

abbrev pub decreases-measure_content-loop-p : goal.decreases-measure_content-loop-p
decreases-measure_content-loop-p l = l.hi - l.p
