-- `back_on` meets its contract.
use Rattle.std.proofs.Common.{rules, refl, Ok, Err}
use Rattle.std.proofs.lemmas.Result.{err_from_is_err_and}
use Rattle.marks.specs.AfterLaws.{came-meant}
use Rattle.archive.specs.FewCells.{back-few-refused, back-few-done, back-few-dropped, dropped-held}
use Rattle.firmware.proofs.cells.back_on.Goals as goal

pub back_in-requires : goal.back_in-requires
back_in-requires g c = (search rules, c.requires.2.few)

pub returns-in_err-b : goal.returns-in_err-b
returns-in_err-b g c =
    let p = err_from_is_err_and c.from_residual.result c.from_residual.ensures.1 in
    rw (p.1, p.2) (back-few-refused _ _ _ c.requires.2 _ _ c.in_err-b.ensures)

pub returns-in_err-table : goal.returns-in_err-table
returns-in_err-table g c = back-few-dropped _ _ _ c.requires.2 _ _ c.in_ok-b.ensures (came-meant (Err c.in_err-table.field-0.0) (c.in_err-table.ensures.dropped _ refl))

pub returns : goal.returns
returns g c = back-few-done _ _ _ c.requires.2 _ _ c.in_ok-b.ensures (dropped-held _ _ (came-meant (Ok c.in_ok-table.table) (c.in_ok-table.ensures.dropped _ refl)))
