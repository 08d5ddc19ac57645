use Prim.Native.Nat.{◌<◌}
use native.Mathlib.Omega.{arith}
use lib.ListN.{length}
use Rattle.marks.specs.Lent.{blanks}
use Rattle.marks.specs.ChangeLaws.{kept-none, kept_next, kept-past, kept-all}
use Rattle.marks.proofs.change.kept_to.Goals.{then-m-i, else-m-i}
use Rattle.marks.proofs.change.kept_to.Goals as goal

pub loop-j-init : goal.loop-j-init
unfolding blanks
loop-j-init c = (omega arith, λ ks e l. kept-none c.args.i ks)

pub loop-j-preserved : goal.loop-j-preserved
loop-j-preserved c = let a = c.args in
    let at = c.loop-j in
    let h : at.count < 32 = omega (arith, c.requires) in (
      elim c.if-m-i.branch [ then-m-i w ↦ omega (arith, w.count-is) | else-m-i w ↦ omega (arith, w.count-is) ],
      λ ks e l.
          let z : at.j < length ks = omega (arith, l) in
          elim c.if-m-i.branch [
            | then-m-i w ↦ rw (w.held-is, w.count-is) (kept_next a.i ks at.j a.t.held e z at.held at.count (at.invariant.1 ks e l) w.if-m-i.true h)
            | else-m-i w ↦ rw (w.held-is, w.count-is) (kept-past a.i ks at.j a.t.held e z at.held at.count (at.invariant.1 ks e l) w.if-m-i.false)
          ],
    )

pub returns : goal.returns
returns c = λ ks e l. kept-all c.args.i c.args.u c.loop-j.j ks c.loop-j.held c.loop-j.count (omega arith) (omega arith) l (c.loop-j.invariant.1 ks e l)
