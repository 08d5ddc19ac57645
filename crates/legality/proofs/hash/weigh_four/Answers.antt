-- `legality::hash::weigh_four` meets its contract, which is what it computes. Assumes nothing.
use Rattle.legality.specs.Folded.{weighed}
use borrow.Author.Rules.{rules}
use Rattle.legality.proofs.hash.weigh_four.Goals as goal

pub returns : goal.returns
unfolding weighed
returns c = search rules
