-- `xml::scan::same` meets its contract. The invariant: n bytes agree, and then as many as the rests have in common. Assumes nothing.
use Prim.Native.Nat.{◌+◌, ◌<◌}
use native.Mathlib.Nat.{add-zero, zero-add}
use native.Mathlib.Omega.{arith}
use borrow.Author.Tests.{ltb-true, ltb-false}
use lib.ListN.{length}
use Rattle.xml.specs.ScanLaws.{common-end, common-done, common-stop, common-more}
use Rattle.xml.proofs.scan.same.Goals as goal

pub loop-n-init : goal.loop-n-init
loop-n-init c = (omega arith, omega arith, simp (zero-add, add-zero))

pub overflow_add-at : goal.overflow_add-at
overflow_add-at c = omega (arith, ltb-true)

pub overflow_add-at-in-loop-n : goal.overflow_add-at-in-loop-n
overflow_add-at-in-loop-n c = omega (arith, ltb-true)

pub bounds-src-at : goal.bounds-src-at
bounds-src-at c = omega (arith, ltb-true)

pub bounds-word-n : goal.bounds-word-n
bounds-word-n c = omega (arith, ltb-true)

pub returns-then-src-at : goal.returns-then-src-at
returns-then-src-at c = let src = c.args.src.now in
    let at = c.args.at in
    let word = c.args.word.now in
    let n = c.loop-n.n in
    let h : at + n < length src = omega (arith, ltb-true) in
    omega (arith, common-stop word src n (at + n) (omega arith) h c.if-src-at.true)

pub overflow_add-n : goal.overflow_add-n
overflow_add-n c = omega (arith, ltb-true)

pub loop-n-smaller : goal.loop-n-smaller
loop-n-smaller c = omega (arith, ltb-true)

pub loop-n-preserved : goal.loop-n-preserved
loop-n-preserved c = let src = c.args.src.now in
    let at = c.args.at in
    let word = c.args.word.now in
    let n = c.loop-n.n in
    let h : at + n < length src = omega (arith, ltb-true) in
    let more = common-more word src n (at + n) (n + 1) (at + (n + 1)) (omega arith) h c.if-src-at.false (omega arith) (omega arith) in
    (omega arith, omega arith, omega arith)

pub returns-else-at-n : goal.returns-else-at-n
returns-else-at-n c = let src = c.args.src.now in
    let at = c.args.at in
    let word = c.args.word.now in
    let n = c.loop-n.n in
    omega (arith, common-end word src n (at + n) (omega (arith, ltb-false)))

pub returns-after-loop-n : goal.returns-after-loop-n
returns-after-loop-n c = let src = c.args.src.now in
    let at = c.args.at in
    let word = c.args.word.now in
    let n = c.loop-n.n in
    omega (arith, common-done word src n (at + n) (omega arith))
