-- `add_on` meets its contract.
use Rattle.archive.specs.AddCall.{add-from}
use Rattle.archive.specs.Giving.{gives-told}
use Rattle.firmware.proofs.cells.add_on.Goals as goal

pub returns : goal.returns
returns g c = gives-told _ _ c.args.out.now (add-from _ _ _ _ _) c.add_in.ensures
