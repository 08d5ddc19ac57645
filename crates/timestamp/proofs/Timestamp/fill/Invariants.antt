-- `timestamp::Timestamp::fill` meets its contract. The loop's invariant: the words before k have their numbers (`Filling`).
use Prim.Native.Nat.{◌+◌, ◌/◌, ◌≤◌}
use Rattle.timestamp.specs.Words.{Filling}
use Rattle.timestamp.proofs.Timestamp.fill.Given as goal

abbrev pub invariant-loop-k : goal.invariant-loop-k
invariant-loop-k l = (l.lo / 64 + 1 ≤ l.k) × (l.k ≤ l.hi / 64) × Filling l.fn.self.words l.lo l.hi l.k l.self.words
