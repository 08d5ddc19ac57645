-- `own_place` meets its contract.
use native.Mathlib.Omega.{arith}
use mathlib.Core.Path.{◌∙◌}
use Rattle.versions.specs.AddWalk.{at_place}
use Rattle.adding.proofs.sibling.own_place.Goals as goal

pub element_at-e-requires : goal.element_at-e-requires
element_at-e-requires c = c.requires.1

pub view-v-requires : goal.view-v-requires
view-v-requires c = rw c.element_at-e.ensures c.requires.0.node.held

pub child-requires : goal.child-requires
child-requires c = let g = c.requires.0 in record { key_list = g.key_list; path = g.path; table = g.tabled; place_is = g.place_is }

pub part-requires : goal.part-requires
part-requires c = let g = c.requires.0 in rw (c.view-v.ensures, c.element_at-e.ensures) (omega arith, g.node.within)

pub returns : goal.returns
returns c K w t e o m k a = rw (c.part.ensures, c.view-v.ensures, c.element_at-e.ensures ∙ at_place a, a.node.bytes-are) at (c.child.ensures K w t e)
