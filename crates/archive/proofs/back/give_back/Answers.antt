-- `give_back` meets its contract: a law for each answer (BackCall).
use Rattle.std.proofs.Common.{Ok, Err}
use Rattle.std.proofs.lemmas.Result.{err_from_is_err_and}
use Rattle.archive.specs.BackCall.{back-illegal, back-given}
use Rattle.archive.proofs.back.give_back.Goals as goal

pub returns-in_err-judge : goal.returns-in_err-judge
returns-in_err-judge c =
    λ f h.
    let p = err_from_is_err_and c.from_residual.result c.from_residual.ensures.1 in
    rw (p.1, p.2) (back-illegal c.requires.0 f h _ _ _ c.in_err-judge.ensures)

pub returns-in_err-length : goal.returns-in_err-length
returns-in_err-length c =
    λ f h.
    let p = err_from_is_err_and c.from_residual-in_err-length.result c.from_residual-in_err-length.ensures.1 in
    rw (p.1, p.2) (back-given c.requires.0 f h _ _ _ (Err c.in_err-length.field-0.0) c.in_ok-judge.ensures (c.in_err-length.ensures f h))

pub returns : goal.returns
returns c =
    λ f h. back-given c.requires.0 f h _ _ _ (Ok c.in_ok-length.length) c.in_ok-judge.ensures (c.in_ok-length.ensures f h)
