-- `set_on` meets its contract.
use Rattle.std.proofs.Common.{Ok, Err}
use Rattle.std.proofs.lemmas.Result.{err_from_is_err_and}
use Rattle.marks.specs.AfterLaws.{set-tabled}
use Rattle.archive.specs.FewCells.{set-few}
use Rattle.firmware.proofs.cells.set_on.Goals as goal

pub set-requires : goal.set-requires
set-requires g c = c.count_in-counted.ensures.few

pub returns-in_err-table : goal.returns-in_err-table
returns-in_err-table g c =
    let p = err_from_is_err_and c.from_residual.result c.from_residual.ensures.1 in
    rw (p.1, p.2) (set-few _ _ _ _ c.count_in-counted.ensures _ (Err c.in_err-table.field-0.0) (set-tabled _ _ _ _ _ c.in_err-table.ensures.refused c.in_err-table.ensures.set))

pub returns : goal.returns
returns g c = set-few _ _ _ _ c.count_in-counted.ensures _ (Ok c.in_ok-table.table) (set-tabled _ _ _ _ _ c.in_ok-table.ensures.refused c.in_ok-table.ensures.set)
