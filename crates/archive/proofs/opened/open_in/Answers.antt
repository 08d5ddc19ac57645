-- `open_in` meets its contract: a law for each answer (Opening).
use Rattle.std.proofs.Common.{rules}
use Rattle.std.proofs.lemmas.Result.{err_from_is_err_and}
use Rattle.archive.specs.FirstSteps.{short}
use Rattle.archive.specs.Opening.{opened-long-keys, opened-long, opened-keys, opened-as}
use Rattle.archive.proofs.opened.open_in.Goals as goal

pub returns-in_err-at_most : goal.returns-in_err-at_most
returns-in_err-at_most c =
    let p = err_from_is_err_and c.from_residual.result c.from_residual.ensures.1 in
    rw (p.1, p.2) (opened-long-keys _ _ c.in_err-at_most.ensures)

pub returns-in_err-at_most-2 : goal.returns-in_err-at_most-2
returns-in_err-at_most-2 c =
    let p = err_from_is_err_and c.from_residual-in_err-at_most-2.result c.from_residual-in_err-at_most-2.ensures.1 in
    rw (p.1, p.2) (opened-long _ _ c.in_ok-at_most.ensures c.in_err-at_most-2.ensures)

pub load-requires : goal.load-requires
load-requires c = (short _ _ c.in_ok-at_most.ensures, search rules)

pub returns-in_err-paths : goal.returns-in_err-paths
returns-in_err-paths c =
    let p = err_from_is_err_and c.from_residual-in_err-paths.result c.from_residual-in_err-paths.ensures.1 in
    rw (p.1, p.2) (opened-keys _ _ c.in_ok-at_most.ensures c.in_ok-at_most-2.ensures c.in_err-paths.ensures)

pub open-requires : goal.open-requires
open-requires c =
    let t = c.in_ok-paths.ensures in
    (record { keys = t.0; table = t.1 }, short _ _ c.in_ok-at_most-2.ensures, c.requires)

pub returns : goal.returns
returns c =
    let t = c.in_ok-paths.ensures in
    opened-as _ _ c.in_ok-at_most.ensures c.in_ok-at_most-2.ensures _ t.0 t.1 _ c.«open».ensures
