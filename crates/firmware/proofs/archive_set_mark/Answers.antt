-- `archive_set_mark` meets its contract.
use Rattle.std.proofs.Common.{◌∙◌, rules}
use Rattle.archive.specs.Entries.{entry-told, entry-long, told-as, lends-whole, set-by-marks}
use Rattle.firmware.specs.Stepped.{bytes-after}
use Rattle.firmware.proofs.archive_set_mark.Goals as goal

pub told_table-requires : goal.told_table-requires
told_table-requires c = λ z. entry-long (set-by-marks _ _ _ _) _ _ c.table_from-t.ensures c.set_on.ensures z

pub returns-then-archive-le-FEW : goal.returns-then-archive-le-FEW
returns-then-archive-le-FEW c = told-as c.told_table.ensures.0 c.told_table.ensures.1 (c.told_table.ensures.2 ∙ bytes-after c.set_on.result c.table_from-t.result.held c.args.marks.now) (entry-told (set-by-marks _ _ _ _) _ _ c.table_from-t.ensures c.set_on.ensures)

pub told_table-requires-2 : goal.told_table-requires-2
told_table-requires-2 c = λ z. entry-long (set-by-marks _ _ _ _) _ _ c.table_from-t.ensures c.set_on-2.ensures z

pub returns : goal.returns
returns c = told-as c.told_table-2.ensures.0 c.told_table-2.ensures.1 (c.told_table-2.ensures.2 ∙ bytes-after c.set_on-2.result c.table_from-t.result.held c.args.marks.now) (entry-told (set-by-marks _ _ _ _) _ _ c.table_from-t.ensures c.set_on-2.ensures)
