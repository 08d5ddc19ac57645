-- `archive::mark::set_mark` meets its contract: the versions are counted, and the table is set under their number.
use Rattle.std.proofs.lemmas.Result.{err_from_is_err_and}
use Rattle.marks.specs.AfterLaws.{set-meant}
use Rattle.archive.specs.MarkCalls.{set-ends, set_done, set_refused}
use Rattle.archive.proofs.mark.set_mark.Goals as goal

pub set-requires : goal.set-requires
set-requires c = c.count-counted.ensures.few

pub returns-in_err-set : goal.returns-in_err-set
returns-in_err-set c =
    let a = c.args in
    let p = err_from_is_err_and c.from_residual.result c.from_residual.ensures.1 in
    let m = set-meant a.marks.now _ a.name.now a.i _ _ c.in_err-set.ensures.refused c.in_err-set.ensures.set in
    rw (p.1, p.2) (set-ends a.keys.now a.archive.now a.marks.now a.name.now a.i a.work.now _ _ c.count-counted.ensures _ _ (set_refused _ m.0) m.1)

pub returns : goal.returns
returns c =
    let a = c.args in
    let m = set-meant a.marks.now _ a.name.now a.i _ _ c.in_ok-set.ensures.refused c.in_ok-set.ensures.set in
    set-ends a.keys.now a.archive.now a.marks.now a.name.now a.i a.work.now _ _ c.count-counted.ensures _ _ (set_done _ m.0) m.1
