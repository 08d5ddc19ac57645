-- `give_history` meets its contract.
use Rattle.std.proofs.Common.{arith, length}
use Rattle.std.proofs.lemmas.Result.{err_from_is_err_and}
use Rattle.archive.specs.FirstSteps.{roomy}
use Rattle.archive.specs.Giving.{ends-1, ends}
use Rattle.archive.specs.HistoryCall.{history-from}
use Rattle.archive.proofs.history.give_history.Goals as goal

pub returns-in_err-room : goal.returns-in_err-room
returns-in_err-room c =
    let p = err_from_is_err_and c.from_residual.result c.from_residual.ensures.1 in
    rw (p.1, p.2) (ends-1 _ _ c.args.out.now c.args.work.now (history-from _ _ _ _ _) c.in_err-room.ensures)

pub history_in-answer-requires : goal.history_in-answer-requires
history_in-answer-requires c = omega (arith, roomy _ c.in_ok-room.ensures)

pub returns : goal.returns
returns c = ends _ _ c.args.out.now c.args.work.now (history-from _ _ _ _ _) c.in_ok-room.ensures c.history_in-answer.ensures (length c.history_in-answer.new.work) (omega (arith, c.history_in-answer.auto)) c.clear.ensures
