-- `timestamp::change::next_start` meets its contract.
use native.Mathlib.Omega.{arith}
use Rattle.timestamp.specs.Narrow.{next-from}
use Rattle.timestamp.proofs.change.next_start.Goals as goal

pub returns : goal.returns
returns c = next-from c.args.text.now c.args.at _ (omega arith) c.first_start.ensures
