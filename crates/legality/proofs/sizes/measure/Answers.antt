-- `legality::sizes::measure` meets its contract, by the laws of SmallLaws.antt. Assumes nothing.
use mathlib.Core.Path.{refl, ◌∙◌}
use Rattle.legality.specs.SmallLaws.{inside-room, inside-stopped, inside-cells, inside-small}
use Rattle.legality.proofs.sizes.measure.Goals as goal

pub add_sizes-requires : goal.add_sizes-requires
add_sizes-requires c = inside-room c.requires

pub returns-in-None : goal.returns-in-None
returns-in-None c = inside-stopped c.requires c.in-None.ensures refl

pub within_limits-requires : goal.within_limits-requires
within_limits-requires c = let x = inside-cells c.requires c.in-Some.ensures refl in (x.0, x.1, c.requires.not_more)

pub returns-in-Some : goal.returns-in-Some
returns-in-Some c f t = c.within_limits.ensures ∙ inside-small c.requires c.in-Some.ensures refl f t
