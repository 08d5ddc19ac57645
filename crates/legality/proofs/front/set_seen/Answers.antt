-- `front::set_seen` meets its contract. Assumes nothing.
use Prim.Native.Nat.{◌%◌}
use native.Mathlib.Omega.{arith}
use lib.ListN.{length-set}
use Rattle.timestamp.specs.Words.{with-set}
use Rattle.legality.proofs.front.set_seen.Goals as goal

pub returns : goal.returns
returns c = (with-set c.args.seen.now (c.args.h % 16384) (omega arith), simp length-set c.requires)
