-- `timestamp::write::put_marked` meets its contract.
use Rattle.xml.specs.OverLaws.{wrote_then}
use Rattle.timestamp.proofs.write.put_marked.Goals as goal

pub returns : goal.returns
returns c = wrote_then c.put-i.ensures c.put_number.ensures
