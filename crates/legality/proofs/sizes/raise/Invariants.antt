-- `legality::sizes::raise` meets its contract. The loop's invariant (`Raising`): the versions of the runs that have been read have grown.
-- Assumes nothing.
use lib.Seq.{slice}
use Rattle.timestamp.specs.Parse.{numbers_in}
use Rattle.legality.specs.Raised.{Raising}
use Rattle.legality.proofs.sizes.raise.Given as goal

abbrev pub invariant-loop-at : goal.invariant-loop-at
invariant-loop-at l = Raising (slice l.at l.e l.src) (numbers_in (slice l.a l.e l.src)) l.x l.y l.initial.nodes l.nodes l.initial.bytes l.bytes l.lo l.n
