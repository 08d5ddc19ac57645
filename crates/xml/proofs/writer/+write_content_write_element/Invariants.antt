-- `xml::writer::write_content` and `xml::writer::write_element` meet their contracts: they call each other, and the nodes that are left fall.
-- Of the siblings, those before p are written, and the rest is left; an element writes into the part that it is lent. Assumes nothing.
use Rattle.xml.specs.Forest.{Forest, write}
use Rattle.xml.specs.Tape.{Tape, next_at}
use Rattle.xml.specs.TapeLaws.{Rest}
use Prim.Native.Nat.{◌+◌, ◌*◌, ◌-◌, ◌≤◌}
use Rattle.xml.proofs.writer.+write_content_write_element.Given as goal

abbrev pub decreases-write_content : goal.decreases-write_content
decreases-write_content l = 2 * (l.hi - l.lo) + 1

abbrev pub decreases-write_element : goal.decreases-write_element
decreases-write_element l = 2 * (next_at l.doc.now.tape.now l.p - l.p)

abbrev pub invariant-write_content-loop-p : goal.invariant-write_content-loop-p
invariant-write_content-loop-p l = (l.lo ≤ l.p) × ((f : Forest) → Tape l.doc.src.now l.doc.tape.now l.lo l.hi f → Rest l.doc.src.now l.doc.tape.now l.p l.hi (write f) l.initial.out l.at l.to l.out)

abbrev pub decreases-write_content-loop-p : goal.decreases-write_content-loop-p
decreases-write_content-loop-p l = l.hi - l.p
