-- `count_in` meets its contract.
use Rattle.std.proofs.lemmas.Result.{err_from_is_err_and}
use Rattle.archive.specs.MarkCalls.{counted-in, uncounted}
use Rattle.archive.proofs.mark.count_in.Goals as goal

pub returns-in_err-opened : goal.returns-in_err-opened
returns-in_err-opened c =
    let p = err_from_is_err_and c.from_residual.result c.from_residual.ensures.1 in
    rw (p.1, p.2) (uncounted _ _ c.in_err-opened.ensures)

pub returns : goal.returns
returns c = counted-in _ _ c.in_ok-opened.ensures
