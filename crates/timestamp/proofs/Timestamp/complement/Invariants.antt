-- `timestamp::Timestamp::complement` meets its contract. The loop's invariant: the words before k are filled (`Filled`).
use Prim.Native.Nat.{◌-◌, ◌≤◌}
use Rattle.timestamp.specs.Words.{Filled, not_at}
use Rattle.timestamp.proofs.Timestamp.complement.Given as goal

abbrev pub invariant-loop-k : goal.invariant-loop-k
invariant-loop-k l = (l.k ≤ 16) × Filled (not_at l.self.words) l.k l.w

abbrev pub decreases-loop-k : goal.decreases-loop-k
decreases-loop-k l = 16 - l.k
