-- `front::branches_legal` meets its contract. The loop's invariant (`Way`): the answer is that for the nodes left, after those passed,
-- whose contents' versions are those of `times` that are not left, and whose contents' hashes are the first of `hashes` and are set in `seen`;
-- there are no more of them than the first version of the last. Assumes nothing.
use Prim.Native.Nat.{◌-◌, ◌≤◌}
use mathlib.Core.Path.{◌≡◌}
use mathlib.Core.Bool.{true}
use lib.ListN.{length, take}
use Rattle.xml.specs.Bytes.{all}
use Rattle.xml.specs.Forest.{Forest, end}
use Rattle.xml.specs.Tape.{Tape, Valid}
use Rattle.timestamp.specs.Set.{set_of, empty_set, without}
use Rattle.timestamp.specs.Listed.{Only}
use Rattle.versions.specs.Branches.{judged, Way}
use Rattle.versions.specs.Hashes.{hashes_of}
use Rattle.legality.specs.Seen.{is_seen}
use Rattle.legality.specs.Left.{Within}
use Rattle.legality.proofs.front.branches_legal.Given as goal

abbrev pub invariant-loop-p : goal.invariant-loop-p
invariant-loop-p l = (l.lo ≤ l.p) × (l.count ≤ l.first) × (length l.hashes ≡ 1000)
    × ((f : Forest) → Tape l.doc.src.now l.doc.tape.now l.lo l.hi f → Only l.n (set_of l.initial.left.words) → Way l.doc.src.now l.doc.tape.now l.lo l.p l.hi l.n (set_of l.initial.left.words) (without (set_of l.initial.left.words) (set_of l.left.words)) l.first l.count (judged l.n (set_of l.initial.left.words) empty_set 0 0 end f))
    × ((d : Forest) → Tape l.doc.src.now l.doc.tape.now l.lo l.p d → take l.count l.hashes ≡ hashes_of d)
    × (length l.seen ≡ 256) × (all (is_seen l.seen) (take l.count l.hashes) ≡ true)
    × Valid l.doc.src.now l.doc.tape.now l.lo l.p × Valid l.doc.src.now l.doc.tape.now l.p l.hi
    × (length l.left.words ≡ 16) × Within (set_of l.left.words) (set_of l.initial.left.words)

abbrev pub decreases-loop-p : goal.decreases-loop-p
decreases-loop-p l = l.hi - l.p
