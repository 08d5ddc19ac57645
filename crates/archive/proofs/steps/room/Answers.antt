-- `room` meets its contract, by the test.
use Rattle.std.proofs.Common.{sym, ap, lt-ltb, le-ltb}
use Rattle.keys.specs.Result.{refuse, r1}
use Rattle.versions.specs.Calls.{room}
use Rattle.archive.proofs.steps.room.Goals as goal

pub returns-then-work-lt16384 : goal.returns-then-work-lt16384
unfolding room
returns-then-work-lt16384 c = sym (ap (refuse r1) (lt-ltb _ _ c.if-work-lt16384.true))

pub returns : goal.returns
unfolding room
returns c = sym (ap (refuse r1) (le-ltb _ _ c.if-work-lt16384.false))
