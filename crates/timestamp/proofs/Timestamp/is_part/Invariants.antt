-- `timestamp::Timestamp::is_part` meets its contract. The loop's invariant: `lack` and `more` are 0 where the words so far are (`Ored`).
use Prim.Native.Nat.{◌-◌, ◌≤◌}
use Rattle.timestamp.specs.Set.{set_of, same_set, subset}
use Rattle.timestamp.specs.Taken.{Ored, lacked_of, differ_of}
use Rattle.timestamp.proofs.Timestamp.is_part.Given as goal

abbrev pub invariant-loop-k : goal.invariant-loop-k
invariant-loop-k l = (l.k ≤ 16) × Ored (lacked_of l.self.words l.other.words) (subset (set_of l.self.words) (set_of l.other.words)) l.k l.lack
    × Ored (differ_of l.self.words l.other.words) (same_set (set_of l.self.words) (set_of l.other.words)) l.k l.more

abbrev pub decreases-loop-k : goal.decreases-loop-k
decreases-loop-k l = 16 - l.k
