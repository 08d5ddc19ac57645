-- `drop_in` meets its contract: the table is refused, or it is legal and the later of its marks are dropped.
use Rattle.std.proofs.Common.{◌≡◌, ◌∙◌, sym, ap, length, rules}
use Rattle.std.proofs.lemmas.Result.{err_from_is_err_and}
use Rattle.keys.specs.Result.{ok}
use Rattle.marks.specs.Marks.{held}
use Rattle.marks.specs.Judging.{lent_of}
use Rattle.marks.specs.Changing.{tabled}
use Rattle.marks.specs.ChangeLaws.{legal-is, dropping-legal, drop-17}
use Rattle.marks.proofs.change.drop_in.Goals as goal

pub returns-in_err-u : goal.returns-in_err-u
returns-in_err-u c =
    let p = err_from_is_err_and c.from_residual.result c.from_residual.ensures.1 in
    rw (p.1, p.2) (drop-17 _ _ c.in_err-u.ensures _)

pub kept_to-requires : goal.kept_to-requires
kept_to-requires c =
    let a = c.args in
    let h : length a.t.held ≡ 32 = search rules in
    (legal-is a.n a.t c.requires h c.in_ok-u.u c.in_ok-u.ensures).few

pub returns : goal.returns
returns c =
    let a = c.args in
    let h : length a.t.held ≡ 32 = search rules in
    let l = legal-is a.n a.t c.requires h c.in_ok-u.u c.in_ok-u.ensures in
    ap ok (c.kept_to.ensures (held (lent_of a.t)) l.are l.count) ∙ ap tabled (sym (dropping-legal a.n (lent_of a.t) (held (lent_of a.t)) a.i l.reads))
