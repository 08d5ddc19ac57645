-- `timestamp::Timestamp::put_text` meets its contract. The loop's invariant (`Written`): what is written, and then the
-- text of the runs from `from` on, is the set's text.
use Prim.Native.Nat.{◌-◌, ◌≤◌}
use Rattle.timestamp.specs.Set.{set_of, first_in}
use Rattle.timestamp.specs.Written.{Written}
use Rattle.timestamp.proofs.Timestamp.put_text.Given as goal

abbrev pub invariant-loop-lo : goal.invariant-loop-lo
invariant-loop-lo l = (1 ≤ l.from) × (l.from ≤ 1000) × Written (set_of l.self.words) l.initial.out l.at l.out l.to (first_in (1024 - l.from) (set_of l.self.words) l.from)

abbrev pub decreases-loop-lo : goal.decreases-loop-lo
decreases-loop-lo l = 1000 - l.from
