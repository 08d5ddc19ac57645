-- `walks::back::write_back`, `back_inside` and `back_node` meet their contracts: siblings by a loop, depth by recursion; a node
-- is written into the part of the output that it is lent. Each node has 163,840 bytes of room.
use Prim.Native.Nat.{◌+◌, ◌*◌, ◌-◌, ◌≤◌}
use Rattle.xml.specs.Forest.{Forest}
use Rattle.xml.specs.Tape.{next_at, Tape}
use Rattle.versions.specs.Walk.{times_in}
use Rattle.versions.specs.Rendered.{Going}
use Rattle.versions.specs.Timely.{Timely}
use Rattle.versions.specs.BackText.{back_text}
use Rattle.walks.specs.Trimmed.{cut_text}
use Rattle.walks.proofs.back.+back_inside_back_node_write_back.Given as goal

abbrev pub decreases-back_inside : goal.decreases-back_inside
decreases-back_inside l = 3 * (l.hi - l.lo) + 2

abbrev pub decreases-back_node : goal.decreases-back_node
decreases-back_node l = 3 * (next_at l.doc.now.tape.now l.p - l.p)

abbrev pub decreases-write_back : goal.decreases-write_back
decreases-write_back l = 3 * (l.hi - l.lo) + 1

abbrev pub invariant-write_back-loop-p : goal.invariant-write_back-loop-p
invariant-write_back-loop-p l = let w = back_text l.i (times_in l.i (cut_text l.doc.src.now l.a l.around.to l.around.tail l.i)) in
    (l.lo ≤ l.p) × Timely l.i l.doc.src.now l.doc.tape.now l.p l.hi × (l.to + 163840 * (l.hi - l.p) ≤ l.at + 163840 * (l.hi - l.lo)) × ((f : Forest) → Tape l.doc.src.now l.doc.tape.now l.lo l.hi f → Going w l.doc.src.now l.doc.tape.now l.p l.hi (w f) l.initial.out l.at l.to l.out)

abbrev pub decreases-write_back-loop-p : goal.decreases-write_back-loop-p
decreases-write_back-loop-p l = l.hi - l.p
