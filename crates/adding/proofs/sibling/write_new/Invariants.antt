-- `write_new` meets its contract: the elements before q are written.
use Prim.Native.Nat.{◌+◌, ◌*◌, ◌-◌, ◌≤◌}
use mathlib.Core.Path.{◌≡◌}
use lib.ListN.{length}
use Rattle.xml.specs.Forest.{Forest}
use Rattle.xml.specs.Tape.{Tape, Valid}
use Rattle.keys.specs.KeyList.{Path, KeyList}
use Rattle.versions.specs.Walk.{add_new}
use Rattle.versions.specs.AddParts.{VersionIn}
use Rattle.versions.specs.AddWalk.{Newer}
use Rattle.adding.proofs.sibling.write_new.Given as goal

abbrev pub invariant-loop-q : goal.invariant-loop-q
invariant-loop-q l = (l.vlo ≤ l.q) × Valid l.version.src.now l.version.tape.now l.q l.vhi × (l.to ≤ l.at + 262144 * (l.q - l.vlo)) × (length l.out ≡ length l.initial.out) × ((K : KeyList) (w : Path) (v : Forest) → Tape l.version.src.now l.version.tape.now l.vlo l.vhi v → VersionIn K w v → Newer l.version.src.now l.version.tape.now l.q l.vhi l.n K w (add_new K l.n w v) l.initial.out l.at l.to l.out)

abbrev pub decreases-loop-q : goal.decreases-loop-q
decreases-loop-q l = l.vhi - l.q
