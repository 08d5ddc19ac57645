-- `xml::compare::same_meaning` meets its contract, for runs and for names. Assumes nothing.
use Rattle.xml.proofs.compare.same_meaning.Goals as goal

pub returns-then-run : goal.returns-then-run
returns-then-run c = rw c.if-run.true c.same_run.ensures

pub returns : goal.returns
returns c = rw c.if-run.false c.same_bytes.ensures
