-- `xml::compare::same_bytes` meets its contract: the parts are the same where what is left of them is. Assumes nothing.
use native.Mathlib.Omega.{arith}
use mathlib.Core.Path.{◌≡◌, sym, ap₂, ◌∙◌}
use lib.ListN.{length}
use lib.Seq.{take-length}
use Rattle.xml.specs.Bytes.{same}
use Rattle.xml.specs.CompareLaws.{bytes-more, bytes-other, bytes-over, same-lengths}
use Rattle.xml.proofs.compare.same_bytes.Goals as goal

pub returns-then-a-b : goal.returns-then-a-b
returns-then-a-b c = sym (same-lengths c.args.a.now c.args.b.now c.if-a-b.true)

pub loop-i-init : goal.loop-i-init
loop-i-init c = (omega arith, sym (ap₂ same (take-length c.args.a.now) (take-length c.args.b.now)))

pub returns-then-a-i : goal.returns-then-a-i
returns-then-a-i c = let a = c.args.a.now in
    let b = c.args.b.now in
    sym (c.loop-i.invariant.1 ∙ bytes-other a c.loop-i.i (length a) b c.loop-i.i (length b) (omega arith) (omega arith) (omega arith) (omega arith) c.if-a-i.true)

pub loop-i-preserved : goal.loop-i-preserved
loop-i-preserved c = let a = c.args.a.now in
    let b = c.args.b.now in
    (omega arith, c.loop-i.invariant.1 ∙ bytes-more a c.loop-i.i (length a) b c.loop-i.i (length b) (omega arith) (omega arith) (omega arith) (omega arith) c.if-a-i.false)

pub returns : goal.returns
returns c = let a = c.args.a.now in
    let b = c.args.b.now in
    let done : c.loop-i.i ≡ length a = omega arith in
    let same-length : length b ≡ length a = omega arith in
    sym (c.loop-i.invariant.1 ∙ rw (done, same-length) (bytes-over a (length a) b (length a)))
