-- `archive_add` meets its contract.
use Rattle.archive.specs.Giving.{told-by}
use Rattle.firmware.proofs.archive_add.Goals as goal

pub returns-then-version-le-FEW : goal.returns-then-version-le-FEW
returns-then-version-le-FEW c = told-by c.told.ensures.0 c.told.ensures.1 c.add_on.ensures

pub returns : goal.returns
returns c = told-by c.told-2.ensures.0 c.told-2.ensures.1 c.add_on-2.ensures
