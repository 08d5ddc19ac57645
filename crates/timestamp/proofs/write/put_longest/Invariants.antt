-- `timestamp::write::put_longest` meets its contract. The loop's invariant: the text over 1 to n % 3 + 3 i is written.
use Prim.Native.Nat.{◌+◌, ◌*◌, ◌/◌, ◌%◌, ◌≤◌}
use Rattle.timestamp.proofs.LongestLaws.{LongestWritten}
use Rattle.timestamp.proofs.write.put_longest.Given as goal

abbrev pub invariant-loop-i : goal.invariant-loop-i
invariant-loop-i l = (l.i ≤ l.n / 3) × LongestWritten (l.n % 3) l.initial.out l.initial.to l.out l.to (l.n % 3 + 3 * l.i)
