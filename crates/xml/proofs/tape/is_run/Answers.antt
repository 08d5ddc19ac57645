-- `xml::tape::is_run` meets its contract. Assumes nothing.
use Prim.Native.Nat.{◌-◌}
use native.Mathlib.Omega.{arith}
use mathlib.Core.Path.{refl}
use borrow.Author.Tests.{eq-eqb, ne_eqb}
use Rattle.xml.specs.Views.{is_run}
use Rattle.xml.proofs.tape.is_run.Goals as goal

pub returns-then-hi-lo-ne1 : goal.returns-then-hi-lo-ne1
unfolding is_run
returns-then-hi-lo-ne1 c = rw (ne_eqb (c.args.hi - c.args.lo) 1 c.if-hi-lo-ne1.true) refl

pub view_at-requires : goal.view_at-requires
view_at-requires c = c.requires.1 (omega arith)

pub returns : goal.returns
unfolding is_run
returns c = rw (c.view_at.ensures, eq-eqb (c.args.hi - c.args.lo) 1 c.if-hi-lo-ne1.false) refl
