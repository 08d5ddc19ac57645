-- The entries of the key names behind i are written, and nothing below them is changed.
use Prim.Native.Nat.{◌+◌, ◌-◌, ◌≤◌}
use Rattle.keys.specs.Rows.{Rowed}
use Rattle.keys.proofs.LoadCells.{KeysGoing}
use Rattle.keys.proofs.load.put_keys.Given as goal

abbrev pub invariant-loop-i : goal.invariant-loop-i
invariant-loop-i l = Rowed 2 l.text l.end l.i × (l.n + 1 ≤ l.k) × KeysGoing l.text l.initial.table l.table l.n l.from l.end l.i l.k

abbrev pub decreases-loop-i : goal.decreases-loop-i
decreases-loop-i l = l.end - l.i
