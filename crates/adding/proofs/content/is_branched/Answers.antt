-- `is_branched` meets its contract. Assumes nothing.
use mathlib.Core.Path.{ap}
use lib.Dec.{eqb}
use borrow.Author.Tests.{lt-ltb, le-ltb}
use Rattle.adding.proofs.content.is_branched.Goals as goal

pub returns-then-hi-lo : goal.returns-then-hi-lo
returns-then-hi-lo c = rw (le-ltb c.args.lo c.args.hi c.if-hi-lo.true)

pub view_at-requires : goal.view_at-requires
view_at-requires c = c.requires c.if-hi-lo.false

pub returns : goal.returns
returns c = rw (lt-ltb c.args.lo c.args.hi c.if-hi-lo.false) (ap (λ v. eqb v.kind 2) c.view_at.ensures)
