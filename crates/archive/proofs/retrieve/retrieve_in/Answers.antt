-- `retrieve_in` meets its contract: a law for each answer (Giving).
use Rattle.std.proofs.Common.{rules}
use Rattle.std.proofs.lemmas.Result.{err_from_is_err_and}
use Rattle.versions.specs.VersionText.{version_text}
use Rattle.archive.specs.FirstSteps.{short}
use Rattle.archive.specs.Giving.{step_ok, too_long, not-long, keys-back, archive-back}
use Rattle.archive.specs.Asking.{asked-given}
use Rattle.archive.proofs.retrieve.retrieve_in.Goals as goal

pub returns-in_err-at_most : goal.returns-in_err-at_most
returns-in_err-at_most c =
    let p = err_from_is_err_and c.from_residual.result c.from_residual.ensures.1 in
    rw (p.1, p.2) (too_long _ 4096 _ _ c.in_err-at_most.ensures)

pub returns-in_err-at_most-2 : goal.returns-in_err-at_most-2
returns-in_err-at_most-2 c =
    let p = err_from_is_err_and c.from_residual-in_err-at_most-2.result c.from_residual-in_err-at_most-2.ensures.1 in
    rw (p.1, p.2) (not-long _ 4096 _ c.in_ok-at_most.ensures (too_long _ 32768 _ _ c.in_err-at_most-2.ensures))

pub load-requires : goal.load-requires
load-requires c = (short _ _ c.in_ok-at_most.ensures, search rules)

pub returns-in_err-paths : goal.returns-in_err-paths
returns-in_err-paths c =
    let p = err_from_is_err_and c.from_residual-in_err-paths.result c.from_residual-in_err-paths.ensures.1 in
    rw (p.1, p.2) (not-long _ 4096 _ c.in_ok-at_most.ensures (not-long _ 32768 _ c.in_ok-at_most-2.ensures (keys-back _ _ _ c.in_err-paths.ensures)))

pub open-requires : goal.open-requires
open-requires c =
    let t = c.in_ok-paths.ensures in
    (record { keys = t.0; table = t.1 }, short _ _ c.in_ok-at_most-2.ensures, c.requires)

pub returns-in_err-opened : goal.returns-in_err-opened
returns-in_err-opened c =
    let t = c.in_ok-paths.ensures in
    let p = err_from_is_err_and c.from_residual-in_err-opened.result c.from_residual-in_err-opened.ensures.1 in
    rw (p.1, p.2) (not-long _ 4096 _ c.in_ok-at_most.ensures (not-long _ 32768 _ c.in_ok-at_most-2.ensures (step_ok _ t.0 t.1.accepted (archive-back t.0 _ _ _ (c.in_err-opened.ensures t.0 t.1)))))

pub returns : goal.returns
returns c =
    let t = c.in_ok-paths.ensures in
    let i = c.args.i in
    not-long _ 4096 _ c.in_ok-at_most.ensures (not-long _ 32768 _ c.in_ok-at_most-2.ensures (step_ok _ t.0 t.1.accepted (asked-given (version_text i) i (c.in_ok-opened.ensures t.0 t.1) c.give_version.ensures)))
