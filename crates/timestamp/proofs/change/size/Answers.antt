-- `timestamp::change::size` meets its contract.
use mathlib.Core.Path.{sym, ap}
use native.Mathlib.Omega.{arith}
use lib.ListN.{length}
use Rattle.timestamp.specs.Write.{decimal-one, decimal-two, decimal-three}
use Rattle.timestamp.proofs.change.size.Goals as goal

pub returns-then-n-lt10 : goal.returns-then-n-lt10
returns-then-n-lt10 c = (sym (ap length (decimal-one c.args.n (omega arith) (omega arith))), omega arith)

pub returns-then-n-lt100 : goal.returns-then-n-lt100
returns-then-n-lt100 c = (sym (ap length (decimal-two c.args.n (omega arith) (omega arith))), omega arith)

pub returns : goal.returns
returns c = (sym (ap length (decimal-three c.args.n (omega arith) (omega arith))), omega arith)
