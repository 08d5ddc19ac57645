-- `timestamp::write::put_tail` meets its contract.
use Rattle.xml.specs.OverLaws.{wrote_none}
use Rattle.timestamp.proofs.write.put_tail.Goals as goal

pub returns-in-Nothing : goal.returns-in-Nothing
returns-in-Nothing c = rw c.in-Nothing.is wrote_none
