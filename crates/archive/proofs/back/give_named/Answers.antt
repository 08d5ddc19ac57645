-- `give_named` meets its contract: a law for each answer (BackCall).
use Rattle.std.proofs.Common.{Ok, Err}
use Rattle.std.proofs.lemmas.Result.{err_from_is_err_and}
use Rattle.archive.specs.BackCall.{named-refused, named-given}
use Rattle.archive.proofs.back.give_named.Goals as goal

pub returns-in_err-to : goal.returns-in_err-to
returns-in_err-to c =
    λ f h.
    let p = err_from_is_err_and c.from_residual.result c.from_residual.ensures.1 in
    rw (p.1, p.2) (named-refused c.requires.0 f h _ _ _ c.in_err-to.ensures)

pub returns-in_err-length : goal.returns-in_err-length
returns-in_err-length c =
    λ f h.
    let p = err_from_is_err_and c.from_residual-in_err-length.result c.from_residual-in_err-length.ensures.1 in
    rw (p.1, p.2) (named-given c.requires.0 f h _ _ _ (Err c.in_err-length.field-0.0) c.in_ok-to.ensures (c.in_err-length.ensures f h))

pub returns : goal.returns
returns c =
    λ f h. named-given c.requires.0 f h _ _ _ (Ok c.in_ok-length.length) c.in_ok-to.ensures (c.in_ok-length.ensures f h)
