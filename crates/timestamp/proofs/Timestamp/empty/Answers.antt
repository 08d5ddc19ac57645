-- `timestamp::Timestamp::empty` meets its contract.
use Rattle.timestamp.specs.Words.{zeros-none}
use Rattle.timestamp.proofs.Timestamp.empty.Goals as goal

pub returns : goal.returns
returns c = zeros-none
