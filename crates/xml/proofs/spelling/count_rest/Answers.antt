-- `xml::spelling::count_rest` meets its contract: one byte after the other is counted. Assumes nothing.
use Prim.Native.Nat.{◌+◌}
use native.Mathlib.Omega.{arith}
use mathlib.Core.Path.{◌≡◌, refl}
use lib.Dec.{eqb}
use lib.ListN.{get_or}
use Rattle.xml.specs.Neat.{one}
use Rattle.xml.specs.NeatLaws.{one-yes, one-no, Counting, counting-none, counting-next, counting-over}
use Rattle.xml.proofs.spelling.count_rest.Goals.{then-src-i, else-src-i}
use Rattle.xml.proofs.spelling.count_rest.Goals as goal

pub loop-i-init : goal.loop-i-init
loop-i-init c = counting-none refl

pub overflow_add-n : goal.overflow_add-n
overflow_add-n c =
    let told : c.if-src-i.n ≡ one (eqb (get_or c.args.src.now c.loop-i.i 0) c.args.b) = elim c.if-src-i.branch [ then-src-i w ↦ one-yes w.if-src-i.true w.n-is | else-src-i w ↦ one-no w.if-src-i.false w.n-is ] in
    let next : Counting c.args.b c.args.src.now c.args.at (c.loop-i.i + 1) (c.loop-i.n + c.if-src-i.n) = counting-next _ c.loop-i.invariant (omega arith) (told) refl in
    omega (arith, next.most)

pub loop-i-preserved : goal.loop-i-preserved
loop-i-preserved c =
    let told : c.if-src-i.n ≡ one (eqb (get_or c.args.src.now c.loop-i.i 0) c.args.b) = elim c.if-src-i.branch [ then-src-i w ↦ one-yes w.if-src-i.true w.n-is | else-src-i w ↦ one-no w.if-src-i.false w.n-is ] in
    let next : Counting c.args.b c.args.src.now c.args.at (c.loop-i.i + 1) (c.loop-i.n + c.if-src-i.n) = counting-next _ c.loop-i.invariant (omega arith) (told) refl in
    next

pub returns : goal.returns
returns c = counting-over c.loop-i.invariant (omega arith)
