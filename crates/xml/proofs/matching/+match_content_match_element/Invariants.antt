-- `xml::matching::match_content` and `xml::matching::match_element` meet their contracts: they call each other, and the nodes that are left fall.
-- Of the siblings, those from p on are to stand at the place where the loop has come to. Assumes nothing.
use lib.ListN.{length}
use Rattle.xml.specs.Forest.{Forest, write}
use Rattle.xml.specs.MatchingLaws.{Due}
use Rattle.xml.specs.Tape.{Tape, next_at}
use Prim.Native.Nat.{◌+◌, ◌*◌, ◌-◌, ◌≤◌}
use Rattle.xml.proofs.matching.+match_content_match_element.Given as goal

abbrev pub decreases-match_content : goal.decreases-match_content
decreases-match_content l = 2 * (l.hi - l.lo) + 1

abbrev pub decreases-match_element : goal.decreases-match_element
decreases-match_element l = 2 * (next_at l.doc.now.tape.now l.p - l.p)

abbrev pub invariant-match_content-loop-p : goal.invariant-match_content-loop-p
invariant-match_content-loop-p l = (l.lo ≤ l.p) × (l.to ≤ length l.doc.src.now + 1) × ((f : Forest) → Tape l.doc.src.now l.doc.tape.now l.lo l.hi f → Due l.doc.src.now l.doc.tape.now l.p l.hi (write f) l.at l.to)

abbrev pub decreases-match_content-loop-p : goal.decreases-match_content-loop-p
decreases-match_content-loop-p l = l.hi - l.p
