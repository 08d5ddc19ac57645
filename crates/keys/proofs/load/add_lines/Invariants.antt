-- The cells are the table of the lines so far, which keep the rules.
use Prim.Native.Nat.{◌-◌}
use lib.ListN.{length}
use Rattle.keys.specs.Loading.{Building}
use Rattle.keys.proofs.load.add_lines.Given as goal

abbrev pub invariant-loop-at : goal.invariant-loop-at
invariant-loop-at l = Building l.text l.table l.at l.n l.lines l.last

abbrev pub decreases-loop-at : goal.decreases-loop-at
decreases-loop-at l = length l.text - l.at
