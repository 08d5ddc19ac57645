-- `xml::stretch::pass_bytes` meets its contract. The invariant: the bytes passed are of the sort. Assumes nothing.
use native.Mathlib.Omega.{arith}
use Rattle.xml.specs.Stretch.{passed_none, passed-more}
use Rattle.xml.proofs.stretch.pass_bytes.Goals as goal

pub loop-j-init : goal.loop-j-init
loop-j-init g c = passed_none (omega arith)

pub returns-then-not-goes_on : goal.returns-then-not-goes_on
returns-then-not-goes_on g c = record { passed = c.loop-j.invariant; stop = λ h. c.goes_on.ensures.other c.if-not-goes_on.true }

pub loop-j-preserved : goal.loop-j-preserved
loop-j-preserved g c = passed-more c.loop-j.invariant (c.goes_on.ensures.of_it c.if-not-goes_on.false) (omega arith)

pub returns : goal.returns
returns g c = record { passed = c.loop-j.invariant; stop = λ h. absurd (omega arith) }
