-- `archive_retrieve` meets its contract.
use Rattle.archive.specs.Giving.{told-by}
use Rattle.firmware.proofs.archive_retrieve.Goals as goal

pub returns-then-archive-le-FEW : goal.returns-then-archive-le-FEW
returns-then-archive-le-FEW c = told-by c.told.ensures.0 c.told.ensures.1 c.retrieve_on.ensures

pub returns : goal.returns
returns c = told-by c.told-2.ensures.0 c.told-2.ensures.1 c.retrieve_on-2.ensures
