-- `xml::spelling::count_block` meets its contract: one byte after the other is counted. Assumes nothing.
use Prim.Native.Nat.{◌+◌}
use native.Mathlib.Omega.{arith}
use mathlib.Core.Path.{◌≡◌}
use lib.Dec.{eqb}
use lib.ListN.{get_or}
use Rattle.xml.specs.Neat.{one}
use Rattle.xml.specs.NeatLaws.{one-yes, one-no, Counting, counting-none, counting-next}
use Rattle.xml.proofs.spelling.count_block.Goals.{then-src-at, else-src-at}
use Rattle.xml.proofs.spelling.count_block.Goals as goal

pub loop-i-init : goal.loop-i-init
loop-i-init c = (omega arith, counting-none (omega arith))

pub overflow_add-at : goal.overflow_add-at
overflow_add-at c = omega arith

pub bounds-src-at : goal.bounds-src-at
bounds-src-at c = omega arith

pub overflow_add-n : goal.overflow_add-n
overflow_add-n c =
    let told : c.if-src-at.n ≡ one (eqb (get_or c.args.src.now (c.args.at + c.loop-i.i) 0) c.args.b) = elim c.if-src-at.branch [ then-src-at w ↦ one-yes w.if-src-at.true w.n-is | else-src-at w ↦ one-no w.if-src-at.false w.n-is ] in
    let next : Counting c.args.b c.args.src.now c.args.at (c.args.at + (c.loop-i.i + 1)) (c.loop-i.n + c.if-src-at.n) = counting-next _ c.loop-i.invariant.1 (omega arith) (told) (omega arith) in
    omega (arith, next.most)

pub overflow_step-i : goal.overflow_step-i
overflow_step-i c = omega arith

pub loop-i-smaller : goal.loop-i-smaller
loop-i-smaller c = omega arith

pub loop-i-preserved : goal.loop-i-preserved
loop-i-preserved c =
    let told : c.if-src-at.n ≡ one (eqb (get_or c.args.src.now (c.args.at + c.loop-i.i) 0) c.args.b) = elim c.if-src-at.branch [ then-src-at w ↦ one-yes w.if-src-at.true w.n-is | else-src-at w ↦ one-no w.if-src-at.false w.n-is ] in
    let next : Counting c.args.b c.args.src.now c.args.at (c.args.at + (c.loop-i.i + 1)) (c.loop-i.n + c.if-src-at.n) = counting-next _ c.loop-i.invariant.1 (omega arith) (told) (omega arith) in
    (omega arith, next)

pub returns : goal.returns
returns c = let e : c.loop-i.i ≡ 128 = omega arith in
    rw e at c.loop-i.invariant.1.is
