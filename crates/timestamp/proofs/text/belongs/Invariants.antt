-- `timestamp::text::belongs` meets its contract. The outer loop's invariant: the pass over the rest of the text, from a
-- fresh run, gives the answer. The inner loop's: with what is read of the run, the pass from here is the one from the run's first byte on.
use Prim.Native.Nat.{◌-◌, ◌≤◌}
use mathlib.Core.Path.{◌≡◌}
use lib.ListN.{length, get_or, drop}
use Rattle.timestamp.specs.Times.{belongs}
use Rattle.timestamp.specs.Belongs.{fresh, rests}
use Rattle.timestamp.proofs.text.belongs.Given as goal

abbrev pub invariant-loop-b : goal.invariant-loop-b
invariant-loop-b l = (l.initial.at ≤ l.at) × (l.at ≤ length l.text) × (l.run.n ≤ 1000) × (l.b ≡ get_or l.text l.at 44) × (rests l.run (drop l.at l.text) l.v ≡ rests l.initial.run (drop l.initial.at l.text) l.v)

abbrev pub decreases-loop-b : goal.decreases-loop-b
decreases-loop-b l = length l.text - l.at

abbrev pub invariant-loop-run : goal.invariant-loop-run
invariant-loop-run l = (l.at ≤ length l.text) × (rests fresh (drop l.at l.text) l.v ≡ belongs l.v l.text)

abbrev pub decreases-loop-run : goal.decreases-loop-run
decreases-loop-run l = length l.text - l.at
