-- `at_most` meets its contract, by the test.
use Rattle.std.proofs.Common.{sym, ap, lt-ltb, le-ltb}
use Rattle.keys.specs.Result.{refuse, r2}
use Rattle.versions.specs.Calls.{at_most}
use Rattle.archive.proofs.steps.at_most.Goals as goal

pub returns-then-most-text : goal.returns-then-most-text
unfolding at_most
returns-then-most-text c = sym (ap (refuse r2) (lt-ltb _ _ c.if-most-text.true))

pub returns : goal.returns
unfolding at_most
returns c = sym (ap (refuse r2) (le-ltb _ _ c.if-most-text.false))
