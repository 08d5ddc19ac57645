-- `legality::hash::mix` meets its contract, which is what it computes. Assumes nothing.
use mathlib.Core.Path.{refl}
use Rattle.versions.specs.Hashes.{mixed}
use Rattle.legality.proofs.hash.mix.Goals as goal

pub returns : goal.returns
unfolding mixed
returns c = refl
