-- `timestamp::write::put_part` meets its contract.
use Rattle.xml.specs.OverLaws.{wrote_then}
use Rattle.timestamp.proofs.write.put_part.Goals as goal

pub returns-then-later : goal.returns-then-later
returns-then-later c = rw c.if-later.true (wrote_then c.put-i.ensures c.put_run.ensures)

pub returns-else-later : goal.returns-else-later
returns-else-later c = rw c.if-later.false c.put_run-else-later.ensures
