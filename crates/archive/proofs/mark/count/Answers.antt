-- `count` meets its contract.
use Rattle.std.proofs.Common.{arith, length}
use Rattle.std.proofs.lemmas.Result.{err_from_is_err_and}
use Rattle.archive.specs.FirstSteps.{roomy}
use Rattle.archive.specs.MarkCalls.{counts-1, counts_all}
use Rattle.archive.proofs.mark.count.Goals as goal

pub returns-in_err-room : goal.returns-in_err-room
returns-in_err-room c =
    let p = err_from_is_err_and c.from_residual.result c.from_residual.ensures.1 in
    rw (p.1, p.2) (counts-1 _ _ _ c.in_err-room.ensures)

pub count_in-counted-requires : goal.count_in-counted-requires
count_in-counted-requires c = omega (arith, roomy _ c.in_ok-room.ensures)

pub returns : goal.returns
returns c = counts_all _ _ _ c.in_ok-room.ensures c.count_in-counted.ensures (length c.count_in-counted.new.work) (omega (arith, c.count_in-counted.auto)) c.clear.ensures
