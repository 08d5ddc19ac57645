-- `legality::bounds::is_content` meets its contract. Assumes nothing.
use mathlib.Core.Path.{sym}
use Rattle.legality.specs.Bounds.{other-node, timed-node}
use Rattle.legality.proofs.bounds.is_content.Goals as goal

pub returns-then-v-ne2 : goal.returns-then-v-ne2
returns-then-v-ne2 c src f t = sym (other-node t c.requires.1 (rw c.view_at-v.ensures at c.if-v-ne2.true))

pub is_sole-requires : goal.is_sole-requires
is_sole-requires c = rw c.view_at-v.ensures c.requires.2

pub returns : goal.returns
returns c src f t = timed-node t c.requires.1 (rw c.view_at-v.ensures at c.if-v-ne2.false) (rw c.view_at-v.ensures at (c.is_sole.ensures src))
