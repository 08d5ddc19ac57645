-- A list's number is that of finding the empty name, but for 15.
use Rattle.station.specs.AskedMarked.{list-ends}
use Rattle.station.proofs.ask.list.Goals as goal

pub returns : goal.returns
returns c = let a = c.args in list-ends a.keys.now a.archive.now a.t.held a.work.now c.list_number.ensures c.number.ensures c.find_mark-found.ensures
