-- `marks::by_value::set` meets its contract: the lent table is that of the marks set.
use Rattle.std.proofs.Common.{sym}
use Rattle.marks.specs.AfterLaws.{lent-done, lent-refused}
use Rattle.marks.proofs.by_value.set.Goals as goal

pub returns-in-Ok-clause-set : goal.returns-in-Ok-clause-set
returns-in-Ok-clause-set g c = λ n e. let p = c.in-Ok.ensures.set n e in sym (lent-done _ _ _ (sym p.0) p.1)

pub returns-in-Err-clause-set : goal.returns-in-Err-clause-set
returns-in-Err-clause-set g c = λ n e. let p = (c.in-Err.ensures.set n e).0 in (p.0, sym (lent-refused _ (sym p.1)), p.2)
