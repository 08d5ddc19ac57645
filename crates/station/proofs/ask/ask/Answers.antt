-- Checking a key list leaves an output as it was.
use Rattle.station.specs.Asked.{check-ends, asks}
use Rattle.station.proofs.ask.ask.Goals as goal

pub returns-in-Check : goal.returns-in-Check
returns-in-Check c =
    let a = c.args in
    asks a.keys.now a.archive.now a.text.now a.i a.out.now a.work.now c.in-Check.is (check-ends a.keys.now a.out.now a.work.now c.check_keys.ensures)
