-- `retrieve_on` meets its contract.
use Rattle.archive.specs.RetrieveLaws.{retrieve-steps}
use Rattle.archive.specs.Giving.{gives-told}
use Rattle.firmware.proofs.cells.retrieve_on.Goals as goal

pub returns : goal.returns
returns g c = gives-told _ _ c.args.out.now (retrieve-steps _ _ _ _ _) c.retrieve_in.ensures
