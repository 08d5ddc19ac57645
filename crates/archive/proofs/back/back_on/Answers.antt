-- `back_on` meets its contract.
use Rattle.std.proofs.Common.{arith, length}
use Rattle.std.proofs.lemmas.Result.{err_from_is_err_and}
use Rattle.archive.specs.FirstSteps.{roomy}
use Rattle.archive.specs.MarkCalls.{steps-1, steps_all}
use Rattle.archive.proofs.back.back_on.Goals as goal

pub returns-in_err-room : goal.returns-in_err-room
returns-in_err-room c =
    let p = err_from_is_err_and c.from_residual.result c.from_residual.ensures.1 in
    rw (p.1, p.2) (steps-1 _ _ _ _ c.in_err-room.ensures)

pub back_in-b-requires : goal.back_in-b-requires
back_in-b-requires c = (omega (arith, roomy _ c.in_ok-room.ensures), c.requires)

pub returns : goal.returns
returns c = steps_all _ _ _ _ c.in_ok-room.ensures c.back_in-b.ensures.0 c.back_in-b.ensures.1 (length c.back_in-b.new.work) (omega (arith, c.back_in-b.auto)) c.clear.ensures
