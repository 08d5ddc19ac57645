-- `timestamp::change::narrow` meets its contract.
use Prim.Native.Nat.{◌-◌}
use Rattle.timestamp.specs.Narrow.{Bracket}
use Rattle.timestamp.proofs.change.narrow.Given as goal

abbrev pub invariant-loop-lo : goal.invariant-loop-lo
invariant-loop-lo l = Bracket l.text l.v l.lo l.hi

abbrev pub decreases-loop-lo : goal.decreases-loop-lo
decreases-loop-lo l = l.hi - l.lo
