-- `marks::by_value::drop_later` meets its contract: the lent table is that of the marks kept.
use Rattle.std.proofs.Common.{sym}
use Rattle.marks.specs.AfterLaws.{lent-done, lent-refused}
use Rattle.marks.proofs.by_value.drop_later.Goals as goal

pub returns-in-Ok-clause-dropped : goal.returns-in-Ok-clause-dropped
returns-in-Ok-clause-dropped g c = λ n e. let p = c.in-Ok.ensures.dropped n e in sym (lent-done _ _ _ (sym p.0) p.1)

pub returns-in-Err-clause-dropped : goal.returns-in-Err-clause-dropped
returns-in-Err-clause-dropped g c = λ n e. let p = (c.in-Err.ensures.dropped n e).0 in (p.0, sym (lent-refused _ (sym p.1)), p.2)
