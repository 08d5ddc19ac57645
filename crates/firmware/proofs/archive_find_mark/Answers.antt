-- `archive_find_mark` meets its contract.
use Rattle.archive.specs.Entries.{find-told, found-by}
use Rattle.firmware.proofs.archive_find_mark.Goals as goal

pub returns-then-archive-le-FEW : goal.returns-then-archive-le-FEW
returns-then-archive-le-FEW c = found-by c.told.ensures.0 c.told.ensures.1 (find-told _ _ _ _ _ c.table_from-t.ensures c.find_on.ensures)

pub returns : goal.returns
returns c = found-by c.told-2.ensures.0 c.told-2.ensures.1 (find-told _ _ _ _ _ c.table_from-t.ensures c.find_on-2.ensures)
