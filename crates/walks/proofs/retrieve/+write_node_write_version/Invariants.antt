-- `walks::retrieve::write_version` and `write_node` meet their contracts: siblings by a loop, depth by recursion; a node is written into the part
-- of the output that it is lent. Each node has 163,840 bytes of room.
use Prim.Native.Nat.{◌+◌, ◌*◌, ◌-◌, ◌≤◌}
use Rattle.xml.specs.Forest.{Forest}
use Rattle.xml.specs.Tape.{next_at, Tape}
use Rattle.versions.specs.Timely.{Timely}
use Rattle.versions.specs.Rendered.{Going}
use Rattle.versions.specs.VersionText.{version_text}
use Rattle.walks.proofs.retrieve.+write_node_write_version.Given as goal

abbrev pub decreases-write_node : goal.decreases-write_node
decreases-write_node l = 2 * (next_at l.doc.now.tape.now l.p - l.p)

abbrev pub decreases-write_version : goal.decreases-write_version
decreases-write_version l = 2 * (l.hi - l.lo) + 1

abbrev pub invariant-write_version-loop-p : goal.invariant-write_version-loop-p
invariant-write_version-loop-p l = (l.lo ≤ l.p) × Timely l.i l.doc.src.now l.doc.tape.now l.p l.hi × (l.to + 163840 * (l.hi - l.p) ≤ l.at + 163840 * (l.hi - l.lo)) × ((f : Forest) → Tape l.doc.src.now l.doc.tape.now l.lo l.hi f → Going (version_text l.i) l.doc.src.now l.doc.tape.now l.p l.hi (version_text l.i f) l.initial.out l.at l.to l.out)

abbrev pub decreases-write_version-loop-p : goal.decreases-write_version-loop-p
decreases-write_version-loop-p l = l.hi - l.p
