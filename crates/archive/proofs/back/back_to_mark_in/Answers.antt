-- `back_to_mark_in` meets its contract: the archive is refused, or lies on the tape.
use Rattle.std.proofs.lemmas.Result.{err_from_is_err_and}
use Rattle.archive.specs.BackCall.{named-sent-back, named-on-tape}
use Rattle.archive.proofs.back.back_to_mark_in.Goals as goal

pub returns-in_err-opened : goal.returns-in_err-opened
returns-in_err-opened c =
    let p = err_from_is_err_and c.from_residual.result c.from_residual.ensures.1 in
    rw (p.1, p.2) (named-sent-back _ _ _ _ _ c.in_err-opened.ensures)

pub give_named-requires : goal.give_named-requires
give_named-requires c = (c.in_ok-opened.ensures.lies, c.requires.1)

pub returns : goal.returns
returns c = named-on-tape _ _ _ _ _ c.in_ok-opened.ensures c.give_named.ensures
