-- `legality::times::parse_at` meets its contract: the part is a slice. Assumes nothing.
use native.Mathlib.Omega.{arith}
use mathlib.Core.Path.{◌∙◌, ap}
use Rattle.timestamp.specs.Parse.{parsed}
use Rattle.versions.specs.TimedLaws.{part_slice}
use Rattle.legality.proofs.times.parse_at.Goals as goal

pub returns : goal.returns
returns c = let a = c.args in (c.parse_into.ensures.0 ∙ ap parsed (part_slice a.a a.e a.src.now (omega arith)), c.parse_into.ensures.1)
