-- `back_in` meets its contract: the archive is refused, or lies on the tape.
use Rattle.std.proofs.lemmas.Result.{err_from_is_err_and}
use Rattle.archive.specs.BackCall.{back-sent-back, back-on-tape}
use Rattle.archive.proofs.back.back_in.Goals as goal

pub returns-in_err-opened : goal.returns-in_err-opened
returns-in_err-opened c =
    let p = err_from_is_err_and c.from_residual.result c.from_residual.ensures.1 in
    rw (p.1, p.2) (back-sent-back _ _ _ _ _ c.in_err-opened.ensures)

pub give_back-requires : goal.give_back-requires
give_back-requires c = (c.in_ok-opened.ensures.lies, c.requires.1)

pub returns : goal.returns
returns c = back-on-tape _ _ _ _ _ c.in_ok-opened.ensures c.give_back.ensures
