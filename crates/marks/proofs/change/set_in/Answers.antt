-- `set_in` meets its contract: the table is refused, or it is legal and the mark is set in it.
use Rattle.std.proofs.Common.{◌≡◌, ◌∙◌, sym, ap, length, rules}
use Rattle.std.proofs.lemmas.Result.{err_from_is_err_and}
use Rattle.marks.specs.Marks.{held}
use Rattle.marks.specs.Judging.{lent_of}
use Rattle.marks.specs.Changing.{tabled}
use Rattle.marks.specs.ChangeLaws.{legal-is, setting-legal, set-17}
use Rattle.marks.proofs.change.set_in.Goals as goal

pub returns-in_err-u : goal.returns-in_err-u
returns-in_err-u c =
    let p = err_from_is_err_and c.from_residual.result c.from_residual.ensures.1 in
    rw (p.1, p.2) (set-17 _ _ c.in_err-u.ensures _ _)

pub set_among-requires : goal.set_among-requires
set_among-requires c =
    let a = c.args in
    let h : length a.t.held ≡ 32 = search rules in
    let l = legal-is a.n a.t c.requires.0 h c.in_ok-u.u c.in_ok-u.ensures in
    (l.few, c.requires.1)

pub returns : goal.returns
returns c =
    let a = c.args in
    let h : length a.t.held ≡ 32 = search rules in
    let l = legal-is a.n a.t c.requires.0 h c.in_ok-u.u c.in_ok-u.ensures in
    c.set_among.ensures (held (lent_of a.t)) l.are l.count ∙ ap tabled (sym (setting-legal a.n (lent_of a.t) (held (lent_of a.t)) a.name.now a.version l.reads))
