-- `timestamp::Timestamp::add` meets its contract.
use native.Mathlib.Omega.{arith}
use lib.ListN.{length-set}
use borrow.Author.Rules.{rules}
use mathlib.Core.Path.{◌≡◌}
use lib.ListN.{length}
use Rattle.timestamp.specs.Words.{with-set}
use Rattle.timestamp.proofs.Timestamp.add.Goals as goal

pub returns : goal.returns
returns c = let n : length c.args.self.now.words ≡ 16 = search rules in (with-set c.args.self.now.words c.args.v (omega (arith, n)), simp length-set n)
