-- `found_on` meets its contract.
use Rattle.archive.specs.FoundLaws.{founds}
use Rattle.archive.specs.Giving.{gives-told}
use Rattle.firmware.proofs.cells.found_on.Goals as goal

pub returns : goal.returns
returns g c = gives-told _ _ c.args.out.now (founds _ _ _ _) c.found_in.ensures
