-- `element_legal` and `siblings_legal` meet their contracts: the answer of the loop is that of the siblings to come, after the last label; an element is
-- judged by its tests one after the other. The nodes left fall.
use Rattle.xml.specs.Tape.{next_at}
use Rattle.keys.specs.Walks.{Walk, OfNodes}
use Rattle.timestamp.specs.Set.{set_of}
use Rattle.timestamp.specs.Listed.{listed as times_of}
use Rattle.versions.specs.Walk.{siblings_legal}
use Rattle.versions.specs.LegalGoing.{Legally}
use Prim.Native.Nat.{◌+◌, ◌*◌, ◌-◌, ◌≤◌}
use Rattle.legality.proofs.legal.+element_legal_siblings_legal.Given as goal

abbrev pub decreases-element_legal : goal.decreases-element_legal
decreases-element_legal l = 2 * (next_at l.doc.now.tape.now l.e - l.e)

abbrev pub decreases-siblings_legal : goal.decreases-siblings_legal
decreases-siblings_legal l = 2 * (l.hi - l.lo) + 1

abbrev pub invariant-siblings_legal-loop-p : goal.invariant-siblings_legal-loop-p
invariant-siblings_legal-loop-p l = (l.lo ≤ l.p) × Walk l.keys.text.now l.keys.table.now l.keys.paths l.place l.doc.src.now l.doc.tape.now l.p l.hi × OfNodes l.keys.text.now l.keys.table.now l.keys.paths l.place l.doc.src.now l.doc.tape.now l.lo l.hi (λ K q f. Legally l.doc.src.now l.doc.tape.now K l.n q (times_of l.n (set_of l.times.words)) l.p l.hi l.last (siblings_legal K l.n q (times_of l.n (set_of l.times.words)) f))

abbrev pub decreases-siblings_legal-loop-p : goal.decreases-siblings_legal-loop-p
decreases-siblings_legal-loop-p l = l.hi - l.p
