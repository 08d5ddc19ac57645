-- `legality::few::few_legal` meets its contract. The loop's invariant (`Way`): the answer is that for the nodes left, after those passed,
-- whose contents' versions are those of `times` that are not left. Assumes nothing.
use Prim.Native.Nat.{◌-◌, ◌≤◌}
use mathlib.Core.Path.{◌≡◌}
use lib.ListN.{length}
use Rattle.xml.specs.Forest.{Forest, end}
use Rattle.xml.specs.Tape.{Tape, Valid}
use Rattle.timestamp.specs.Set.{set_of, empty_set, without}
use Rattle.timestamp.specs.Listed.{Only}
use Rattle.versions.specs.Branches.{judged, Way}
use Rattle.legality.specs.Left.{Within}
use Rattle.legality.proofs.few.few_legal.Given as goal

abbrev pub invariant-loop-p : goal.invariant-loop-p
invariant-loop-p l = (l.count ≤ l.first)
    × ((f : Forest) → Tape l.doc.src.now l.doc.tape.now l.lo l.hi f → Only l.n (set_of l.initial.left.words) → Way l.doc.src.now l.doc.tape.now l.lo l.p l.hi l.n (set_of l.initial.left.words) (without (set_of l.initial.left.words) (set_of l.left.words)) l.first l.count (judged l.n (set_of l.initial.left.words) empty_set 0 0 end f))
    × Valid l.doc.src.now l.doc.tape.now l.lo l.p × Valid l.doc.src.now l.doc.tape.now l.p l.hi × (length l.left.words ≡ 16) × Within (set_of l.left.words) (set_of l.initial.left.words)

abbrev pub decreases-loop-p : goal.decreases-loop-p
decreases-loop-p l = l.hi - l.p
