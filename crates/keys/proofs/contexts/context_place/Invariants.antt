-- The place and the number of the names behind i, going down from what is known.
use Prim.Native.Nat.{◌+◌, ◌-◌, ◌≤◌}
use Rattle.keys.specs.Rows.{Rowed}
use Rattle.keys.proofs.LoadSteps.{Counted, Walked}
use Rattle.keys.proofs.contexts.context_place.Given as goal

abbrev pub invariant-loop-i : goal.invariant-loop-i
invariant-loop-i l = Rowed 1 l.text l.end l.i × (l.depth ≤ l.i + 9) × Counted 1 l.text l.end (l.at + 1) l.i l.depth × Walked l.text l.at l.table l.n (l.at + 1) l.end l.i l.place

abbrev pub decreases-loop-i : goal.decreases-loop-i
decreases-loop-i l = l.end - l.i
