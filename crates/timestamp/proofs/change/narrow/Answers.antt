-- `timestamp::change::narrow` meets its contract.
use native.Mathlib.Omega.{arith}
use Rattle.timestamp.specs.Narrow.{bracket-all, bracket-in, bracket-end}
use Rattle.timestamp.proofs.change.narrow.Goals as goal

pub loop-lo-init : goal.loop-lo-init
loop-lo-init c = bracket-all c.args.v c.requires

pub overflow_add-lo : goal.overflow_add-lo
overflow_add-lo c = omega (arith, bracket-in c.loop-lo.invariant)

pub returns : goal.returns
returns c = bracket-end c.loop-lo.invariant (omega arith)
