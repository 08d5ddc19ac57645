-- `timestamp::write::put_digit` meets its contract.
use Rattle.timestamp.proofs.write.put_digit.Goals as goal

pub returns : goal.returns
returns c = rw (← c.digit.ensures) c.put.ensures
