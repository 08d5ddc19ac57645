-- `legality::times::take_at` meets its contract: the part is a slice. Assumes nothing.
use native.Mathlib.Omega.{arith}
use Rattle.versions.specs.TimedLaws.{part_slice}
use Rattle.legality.proofs.times.take_at.Goals as goal

pub returns : goal.returns
returns c = let a = c.args in rw (part_slice a.a a.e a.src.now (omega arith)) at c.take_text.ensures
