-- `longest_history` meets its contract.
use Rattle.std.proofs.Common.{arith, length}
use Rattle.std.proofs.lemmas.Result.{err_from_is_err_and}
use Rattle.archive.specs.Giving.{ends-1, ends}
use Rattle.archive.specs.LongestCall.{longest-from, longest-ends}
use Rattle.archive.proofs.longest.longest_history.Goals as goal

pub returns-in_err-room : goal.returns-in_err-room
returns-in_err-room c =
    let p = err_from_is_err_and c.from_residual.result c.from_residual.ensures.1 in
    rw (p.1, p.2) (longest-ends (ends-1 _ _ c.args.out.now c.args.work.now (longest-from _ _ _) c.in_err-room.ensures))

pub returns : goal.returns
returns c = longest-ends (ends _ _ c.args.out.now c.args.work.now (longest-from _ _ _) c.in_ok-room.ensures c.longest_in-answer.ensures (length c.args.work.now) (omega arith) c.clear.ensures)
