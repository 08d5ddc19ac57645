-- `keys::keyed::is_unkeyed` meets its contract: the walk from above the root. Assumes nothing.
use mathlib.Core.List.{[]}
use Rattle.keys.specs.PlaceLaws.{place-root}
use Rattle.keys.specs.Strays.{keyless}
use Rattle.keys.proofs.keyed.is_unkeyed.Goals as goal

pub returns : goal.returns
unfolding keyless
returns c K t f h = c.unkeyed_content.ensures K [] t (place-root K) f h
