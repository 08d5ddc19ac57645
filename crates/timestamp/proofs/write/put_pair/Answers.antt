-- `timestamp::write::put_pair` meets its contract.
use native.Mathlib.Omega.{arith}
use borrow.Author.Tests.{lt-ltb}
use Rattle.timestamp.proofs.write.put_pair.Goals as goal

pub returns : goal.returns
returns c = rw (lt-ltb 0 c.args.k (omega (arith, c.if-k-lt98.false))) c.put_long_part.ensures
