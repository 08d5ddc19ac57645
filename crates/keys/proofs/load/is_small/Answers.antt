-- The three bounds.
use native.Mathlib.Omega.{arith}
use Rattle.keys.proofs.LoadSteps.{small-bare, small-keyed}
use Rattle.keys.proofs.load.is_small.Goals as goal

pub returns-then-keys-eq0 : goal.returns-then-keys-eq0
returns-then-keys-eq0 c = small-bare c.args.depth c.args.keys c.args.n (omega arith) c.if-keys-eq0.true

pub returns-then-depth-gt8-2 : goal.returns-then-depth-gt8-2
returns-then-depth-gt8-2 c = λ s. omega (arith, s.1 (omega arith))

pub returns : goal.returns
returns c = small-keyed c.args.depth c.args.keys c.args.n (omega arith)
