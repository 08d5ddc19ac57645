-- `rank_of` meets its contract: the label before `low` is lower, that at `high` is higher.
use Prim.Native.Nat.{ℕ, ◌+◌, ◌-◌, ◌≤◌}
use Rattle.xml.specs.Bytes.{Bytes}
use Rattle.xml.specs.Forest.{Forest}
use Rattle.xml.specs.Tape.{next_at, Node, Tape}
use Rattle.keys.specs.Version.{label}
use Rattle.keys.specs.Placed.{OfPlace}
use Rattle.keys.specs.Entries.{Lists}
use Rattle.keys.specs.Gathering.{Ranking}
use Rattle.keys.proofs.order.rank_of.Given as goal

abbrev pub invariant-loop-low : goal.invariant-loop-low
invariant-loop-low l = (l.low ≤ l.high) × (l.high ≤ l.k)
    × OfPlace l.keys.text.now l.keys.table.now l.keys.paths l.place (λ K q. (m : Bytes) (i : Forest) → Node l.doc.src.now l.doc.tape.now l.p 1 m → Tape l.doc.src.now l.doc.tape.now (l.p + 1) (next_at l.doc.tape.now l.p) i
    → (lo hi : ℕ) (s : Forest) → Lists l.doc.src.now l.doc.tape.now lo hi l.order 0 l.k s → Ranking K q l.doc.src.now l.doc.tape.now lo hi l.order l.k (label K q m i) s l.low l.high)

abbrev pub decreases-loop-low : goal.decreases-loop-low
decreases-loop-low l = l.high - l.low
