-- `marks::lent::find` meets its contract: what is found in the table by value is what is found in the lent one.
use Rattle.std.proofs.Common.{◌∙◌, sym, ap}
use Rattle.std.proofs.lemmas.Result.{err_from_is_err_and}
use Rattle.marks.specs.Changing.{version_in}
use Rattle.marks.specs.AfterLaws.{find-same, counted-is}
use Rattle.marks.proofs.lent.find.Goals as goal

pub returns-in_err-version-clause-found : goal.returns-in_err-version-clause-found
returns-in_err-version-clause-found g c =
    let a = c.args in
    let p = err_from_is_err_and c.from_residual.result c.from_residual.ensures.1 in
    let e = (rw c.gather-t.ensures at c.in_err-version.ensures) ∙ ap version_in (find-same c.in-Ok.n a.marks.now a.name.now) in
    counted-is _ c.in-Ok.is (rw p.1 (c.in_err-version.field-0.0, sym e, p.2))

pub returns-clause-found : goal.returns-clause-found
returns-clause-found g c =
    let a = c.args in
    counted-is _ c.in-Ok.is (sym ((rw c.gather-t.ensures at c.in_ok-version.ensures) ∙ ap version_in (find-same c.in-Ok.n a.marks.now a.name.now)))
