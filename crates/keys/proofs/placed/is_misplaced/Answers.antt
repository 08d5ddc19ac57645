-- `keys::placed::is_misplaced` meets its contract: the walk from above the root. Assumes nothing.
use mathlib.Core.List.{[]}
use Rattle.keys.specs.PlaceLaws.{place-root}
use Rattle.keys.specs.Strays.{astray}
use Rattle.keys.proofs.placed.is_misplaced.Goals as goal

pub returns : goal.returns
unfolding astray
returns c K t f h = c.misplaced_content.ensures K [] t (place-root K) f h
