-- `find_on` meets its contract.
use Rattle.marks.specs.AfterLaws.{find-meant}
use Rattle.archive.specs.FewCells.{find-few}
use Rattle.firmware.proofs.cells.find_on.Goals as goal

pub returns : goal.returns
returns g c = find-few _ _ _ _ c.count_in-counted.ensures _ (find-meant _ _ _ _ c.find.ensures.refused c.find.ensures.found)
