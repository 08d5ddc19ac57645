-- `archive::back::step_back_to_mark` meets its contract: the step is made with the table by value, and later marks are dropped from the lent one.
use Rattle.std.proofs.lemmas.Result.{err_from_is_err_and}
use Rattle.std.proofs.Common.{refl, Err}
use Rattle.marks.specs.AfterLaws.{lent_is, came-meant}
use Rattle.archive.specs.MarkCalls.{named-refusal, named-done, named-dropped}
use Rattle.archive.proofs.back.step_back_to_mark.Goals as goal

pub returns-in_err-b : goal.returns-in_err-b
returns-in_err-b c =
    let a = c.args in
    let p = err_from_is_err_and c.from_residual.result c.from_residual.ensures.1 in
    rw (p.1, p.2) (named-refusal a.keys.now a.archive.now a.marks.now _ (λ n. lent_is n a.marks.now) a.out.now a.work.now a.name.now (rw c.gather-t.ensures at c.in_err-b.ensures))

pub returns-in_err-drop_later : goal.returns-in_err-drop_later
returns-in_err-drop_later c =
    let a = c.args in
    named-dropped a.keys.now a.archive.now a.marks.now _ (λ n. lent_is n a.marks.now) a.out.now a.work.now a.name.now (rw c.gather-t.ensures at c.in_ok-b.ensures) (came-meant (Err c.in_err-drop_later.field-0.0) (c.in_err-drop_later.ensures.dropped _ refl).0)

pub returns : goal.returns
returns c =
    let a = c.args in
    named-done a.keys.now a.archive.now a.marks.now _ (λ n. lent_is n a.marks.now) a.out.now a.work.now a.name.now (rw c.gather-t.ensures at c.in_ok-b.ensures) (c.drop_later.ensures.dropped _ refl).1
