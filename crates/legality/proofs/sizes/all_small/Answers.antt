-- `legality::sizes::all_small` meets its contract. Assumes nothing.
use native.Mathlib.Omega.{arith}
use Rattle.legality.specs.Bounds.{bounded-small}
use Rattle.legality.proofs.sizes.all_small.Goals as goal

pub returns-then-most-le16384 : goal.returns-then-most-le16384
returns-then-most-le16384 c = bounded-small c.requires c.in-Some.ensures (omega arith) (omega arith)
