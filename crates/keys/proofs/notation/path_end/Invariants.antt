-- The path counted so far and what is left make the whole.
use Prim.Native.Nat.{◌+◌, ◌-◌, ◌≤◌}
use mathlib.Core.Path.{◌≡◌}
use lib.ListN.{length, drop}
use Rattle.keys.specs.LineScans.{path_run}
use Rattle.keys.proofs.notation.path_end.Given as goal

abbrev pub invariant-loop-n : goal.invariant-loop-n
invariant-loop-n l = (l.i ≤ length l.text) × (l.from + path_run 0 (drop l.from l.text) ≡ l.i + path_run 0 (drop l.i l.text))

abbrev pub decreases-loop-n : goal.decreases-loop-n
decreases-loop-n l = length l.text - l.i
