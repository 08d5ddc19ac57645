-- `legality::hash::fold_block` meets its contract: the law of sixteen bytes, from the sums of each four. Assumes nothing.
use Rattle.legality.specs.Folded.{fold-sixteen}
use Rattle.legality.proofs.hash.fold_block.Goals as goal

pub returns : goal.returns
returns c = fold-sixteen c.args.src.now c.args.i c.args.h c.requires.0 c.weigh_four-first.ensures.0 c.weigh_four-second.ensures.0 c.weigh_four-third.ensures.0 c.weigh_four-last.ensures.0
