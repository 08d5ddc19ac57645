-- `check_keys` meets its contract: a law for each answer (Giving).
use Rattle.std.proofs.Common.{[], refl, length, rules}
use Rattle.std.proofs.lemmas.Result.{err_from_is_err_and}
use Rattle.archive.specs.FirstSteps.{short}
use Rattle.archive.specs.Giving.{ends-1, ends, step_ok, too_long, not-long, keys-back}
use Rattle.archive.specs.CheckLaws.{check-from, checked, nothing-given}
use Rattle.archive.proofs.check_keys.check_keys.Goals as goal

pub returns-in_err-room : goal.returns-in_err-room
returns-in_err-room c =
    let p = err_from_is_err_and c.from_residual.result c.from_residual.ensures.1 in
    rw (p.1, p.2) (checked _ _ (ends-1 _ _ [] c.args.work.now (check-from _ _) c.in_err-room.ensures))

pub returns-in_err-at_most : goal.returns-in_err-at_most
returns-in_err-at_most c =
    let p = err_from_is_err_and c.from_residual-in_err-at_most.result c.from_residual-in_err-at_most.ensures.1 in
    rw (p.1, p.2) (checked _ _ (ends _ _ [] c.args.work.now (check-from _ _) c.in_ok-room.ensures (too_long _ 4096 _ [] c.in_err-at_most.ensures) (length c.args.work.now) refl c.clear.ensures))

pub load-requires : goal.load-requires
load-requires c = (short _ _ c.in_ok-at_most.ensures, search rules)

pub returns-in_err-load : goal.returns-in_err-load
returns-in_err-load c =
    let p = err_from_is_err_and c.from_residual-in_err-load.result c.from_residual-in_err-load.ensures.1 in
    rw (p.1, p.2) (checked _ _ (ends _ _ [] c.args.work.now (check-from _ _) c.in_ok-room.ensures (not-long _ 4096 _ c.in_ok-at_most.ensures (keys-back _ _ [] c.in_err-load.ensures)) (length c.args.work.now) refl c.clear.ensures))

pub returns : goal.returns
returns c =
    let t = c.in_ok-load.ensures in
    checked _ _ (ends _ _ [] c.args.work.now (check-from _ _) c.in_ok-room.ensures (not-long _ 4096 _ c.in_ok-at_most.ensures (step_ok _ t.0 t.1.accepted nothing-given)) (length c.args.work.now) refl c.clear.ensures)
