-- The names behind i are counted.
use Prim.Native.Nat.{◌-◌, ◌≤◌}
use Rattle.keys.specs.Rows.{Rowed}
use Rattle.keys.proofs.LoadSteps.{Counted}
use Rattle.keys.proofs.load.row_len.Given as goal

abbrev pub invariant-loop-i : goal.invariant-loop-i
invariant-loop-i l = Rowed 2 l.text l.end l.i × (l.k ≤ l.i) × Counted 2 l.text l.end l.from l.i l.k

abbrev pub decreases-loop-i : goal.decreases-loop-i
decreases-loop-i l = l.end - l.i
