-- `marks::lent::drop_later` meets its contract: what is refused leaves the lent entries, and else they are those of the table by value.
use Rattle.std.proofs.Common.{◌≡◌, ◌∙◌, sym, rules, length}
use Rattle.std.proofs.lemmas.Result.{err_from_is_err_and}
use Rattle.marks.specs.AfterLaws.{drop-written, drop_kept, counted-is}
use Rattle.marks.proofs.lent.drop_later.Goals as goal

pub returns-in_err-next-clause-dropped : goal.returns-in_err-next-clause-dropped
returns-in_err-next-clause-dropped g c =
    let a = c.args in
    let p = err_from_is_err_and c.from_residual.result c.from_residual.ensures.1 in
    let k = drop_kept a.marks.now c.in-Ok.n a.i (rw c.gather-t.ensures at c.in_err-next.ensures) in
    counted-is _ c.in-Ok.is (rw p.1 (c.in_err-next.field-0.0, sym k.done_is, p.2), k.left)

pub scatter-requires : goal.scatter-requires
scatter-requires g c =
    let a = c.args in
    let h : length c.in_ok-next.next.held ≡ 32 = search rules in
    let k = drop-written a.marks.now c.in_ok-next.next c.in-Ok.n a.i (rw c.gather-t.ensures at c.in_ok-next.ensures) h in
    (k.small, k.within)

pub returns-clause-dropped : goal.returns-clause-dropped
returns-clause-dropped g c =
    let a = c.args in
    let h : length c.in_ok-next.next.held ≡ 32 = search rules in
    let k = drop-written a.marks.now c.in_ok-next.next c.in-Ok.n a.i (rw c.gather-t.ensures at c.in_ok-next.ensures) h in
    counted-is _ c.in-Ok.is (sym k.done_is, c.scatter.ensures ∙ k.left)
