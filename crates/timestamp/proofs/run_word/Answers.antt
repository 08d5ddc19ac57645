-- `timestamp::run_word` meets its contract.
use mathlib.Core.Path.{◌∙◌}
use native.Mathlib.Omega.{arith}
use Rattle.timestamp.specs.Words.{bits-run}
use Rattle.timestamp.proofs.run_word.Goals as goal

pub returns : goal.returns
returns c = c.bits.ensures ∙ bits-run c.args.lo c.args.hi c.args.k _ _ (omega (arith, c.max.ensures)) (omega (arith, c.min.ensures))
