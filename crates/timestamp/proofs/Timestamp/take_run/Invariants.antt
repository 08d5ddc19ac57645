-- `timestamp::Timestamp::take_run` meets its contract. The loop's invariant: the words before k are done, and had all (`Taking`).
use Prim.Native.Nat.{◌+◌, ◌/◌, ◌≤◌}
use Rattle.timestamp.specs.Words.{range_word}
use Rattle.timestamp.specs.Taken.{Taking}
use Rattle.timestamp.proofs.Timestamp.take_run.Given as goal

abbrev pub invariant-loop-k : goal.invariant-loop-k
invariant-loop-k l = (l.lo / 64 ≤ l.k) × (l.k ≤ l.hi / 64 + 1) × Taking l.initial.self.words (range_word l.lo l.hi) (l.lo / 64) l.k l.self.words
