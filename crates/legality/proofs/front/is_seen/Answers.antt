-- `front::is_seen` meets its contract, which is what it computes. Assumes nothing.
use borrow.Author.Rules.{rules}
use Rattle.timestamp.specs.Bits.{bit}
use Rattle.timestamp.specs.Set.{set_of}
use Rattle.legality.specs.Seen.{is_seen}
use Rattle.legality.proofs.front.is_seen.Goals as goal

pub returns : goal.returns
unfolding is_seen set_of bit
returns c = search rules
