-- `write_added` and `write_both` meet their contracts: of the siblings before nodes p and q all is written, each into the part of the output
-- that it was lent, and what is left to add is what they add to.
use mathlib.Core.Path.{◌≡◌}
use mathlib.Core.Bool.{true}
use lib.ListN.{length}
use Rattle.xml.specs.Forest.{Forest}
use Rattle.xml.specs.Tape.{next_at}
use Rattle.keys.specs.KeyList.{Path, KeyList, above}
use Rattle.timestamp.specs.Times.{Times}
use Rattle.versions.specs.Walk.{add_in}
use Rattle.versions.specs.AddWalk.{Held}
use Rattle.adding.specs.AddWay.{Way}
use Prim.Native.Nat.{◌+◌, ◌*◌, ◌-◌, ◌≤◌}
use Rattle.adding.proofs.add.+write_added_write_both.Given as goal

abbrev pub decreases-write_added : goal.decreases-write_added
decreases-write_added l = 2 * (l.hi - l.lo) + 1

abbrev pub decreases-write_both : goal.decreases-write_both
decreases-write_both l = 2 * (next_at l.archive.now.tape.now l.p - l.p)

abbrev pub invariant-write_added-loop-p : goal.invariant-write_added-loop-p
invariant-write_added-loop-p l = (l.lo ≤ l.p) × (l.vlo ≤ l.q) × (l.to + 262144 * (l.hi - l.p + (l.vhi - l.q)) ≤ l.at + 262144 * (l.hi - l.lo + (l.vhi - l.vlo))) × (l.fresh + (l.vhi - l.q) ≤ l.vhi - l.vlo) × (length l.out ≡ length l.initial.out) × ((K : KeyList) (w : Path) (u : Times) (f v : Forest) → Held l.keys.text.now l.keys.table.now l.keys.paths l.place l.archive.src.now l.archive.tape.now l.lo l.hi l.version.src.now l.version.tape.now l.vlo l.vhi l.n l.around.start l.around.end K w u f v → above K w ≡ true → Way l.archive.src.now l.archive.tape.now l.p l.hi l.version.src.now l.version.tape.now l.q l.vhi l.n K w u (add_in K l.n w u f v) f l.initial.out l.at l.to l.out l.fresh)

abbrev pub decreases-write_added-loop-p : goal.decreases-write_added-loop-p
decreases-write_added-loop-p l = l.hi - l.p + (l.vhi - l.q)
