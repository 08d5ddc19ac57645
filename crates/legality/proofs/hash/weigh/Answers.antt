-- `legality::hash::weigh` meets its contract: a byte times a weight is small. Assumes nothing.
use native.Mathlib.Omega.{arith}
use mathlib.Core.Path.{refl}
use Rattle.legality.specs.Folded.{weigh-small}
use Rattle.legality.proofs.hash.weigh.Goals as goal

pub overflow_mul-result : goal.overflow_mul-result
overflow_mul-result c = omega (arith, weigh-small c.args.b c.args.w (omega arith) c.requires)

pub returns : goal.returns
returns c = (refl, weigh-small c.args.b c.args.w (omega arith) c.requires)
