-- `add_in` meets its contract: a law for each answer (Giving).
use Rattle.std.proofs.Common.{rules}
use Rattle.std.proofs.lemmas.Result.{err_from_is_err_and}
use Rattle.archive.specs.FirstSteps.{short}
use Rattle.archive.specs.Giving.{step_ok, too_long, not-long, keys-back, version-back}
use Rattle.archive.specs.AddCall.{some-adding, add-given, add-back}
use Rattle.archive.proofs.add.add_in.Goals as goal

pub returns-in_err-at_most : goal.returns-in_err-at_most
returns-in_err-at_most c =
    let p = err_from_is_err_and c.from_residual.result c.from_residual.ensures.1 in
    rw (p.1, p.2) (too_long _ 4096 _ _ c.in_err-at_most.ensures)

pub returns-in_err-at_most-2 : goal.returns-in_err-at_most-2
returns-in_err-at_most-2 c =
    let p = err_from_is_err_and c.from_residual-in_err-at_most-2.result c.from_residual-in_err-at_most-2.ensures.1 in
    rw (p.1, p.2) (not-long _ 4096 _ c.in_ok-at_most.ensures (too_long _ 16384 _ _ c.in_err-at_most-2.ensures))

pub returns-in_err-at_most-3 : goal.returns-in_err-at_most-3
returns-in_err-at_most-3 c =
    let p = err_from_is_err_and c.from_residual-in_err-at_most-3.result c.from_residual-in_err-at_most-3.ensures.1 in
    rw (p.1, p.2) (not-long _ 4096 _ c.in_ok-at_most.ensures (not-long _ 16384 _ c.in_ok-at_most-2.ensures (too_long _ 32768 _ _ c.in_err-at_most-3.ensures)))

pub load-requires : goal.load-requires
load-requires c = (short _ _ c.in_ok-at_most.ensures, search rules)

pub returns-in_err-paths : goal.returns-in_err-paths
returns-in_err-paths c =
    let p = err_from_is_err_and c.from_residual-in_err-paths.result c.from_residual-in_err-paths.ensures.1 in
    rw (p.1, p.2) (not-long _ 4096 _ c.in_ok-at_most.ensures (not-long _ 16384 _ c.in_ok-at_most-2.ensures (not-long _ 32768 _ c.in_ok-at_most-3.ensures (keys-back _ _ _ c.in_err-paths.ensures))))

pub receive-requires : goal.receive-requires
receive-requires c =
    let t = c.in_ok-paths.ensures in
    (record { keys = t.0; table = t.1 }, short _ _ c.in_ok-at_most-2.ensures, c.requires.1, search rules)

pub returns-in_err-m : goal.returns-in_err-m
returns-in_err-m c =
    let t = c.in_ok-paths.ensures in
    let p = err_from_is_err_and c.from_residual-in_err-m.result c.from_residual-in_err-m.ensures.1 in
    rw (p.1, p.2) (not-long _ 4096 _ c.in_ok-at_most.ensures (not-long _ 16384 _ c.in_ok-at_most-2.ensures (not-long _ 32768 _ c.in_ok-at_most-3.ensures (step_ok _ t.0 t.1.accepted (version-back _ _ (c.in_err-m.ensures t.0 t.1))))))

pub open-requires : goal.open-requires
open-requires c =
    let t = c.in_ok-paths.ensures in
    (record { keys = t.0; table = t.1 }, short _ _ c.in_ok-at_most-3.ensures, search rules)

pub returns-in_err-opened : goal.returns-in_err-opened
returns-in_err-opened c =
    let t = c.in_ok-paths.ensures in
    let p = err_from_is_err_and c.from_residual-in_err-opened.result c.from_residual-in_err-opened.ensures.1 in
    rw (p.1, p.2) (not-long _ 4096 _ c.in_ok-at_most.ensures (not-long _ 16384 _ c.in_ok-at_most-2.ensures (not-long _ 32768 _ c.in_ok-at_most-3.ensures (step_ok _ t.0 t.1.accepted (add-back _ _ (c.in_ok-m.ensures t.0 t.1) (c.in_err-opened.ensures t.0 t.1))))))

pub give_grown-requires : goal.give_grown-requires
give_grown-requires c =
    let t = c.in_ok-paths.ensures in
    some-adding (λ K h. c.in_ok-m.ensures K h) (λ K h. c.in_ok-opened.ensures K h) (record { keys = t.0; table = t.1 })

pub returns : goal.returns
returns c =
    let t = c.in_ok-paths.ensures in
    not-long _ 4096 _ c.in_ok-at_most.ensures (not-long _ 16384 _ c.in_ok-at_most-2.ensures (not-long _ 32768 _ c.in_ok-at_most-3.ensures (step_ok _ t.0 t.1.accepted (add-given (λ K h. c.in_ok-m.ensures K h) (λ K h. c.in_ok-opened.ensures K h) c.give_grown.ensures t.0 t.1))))
