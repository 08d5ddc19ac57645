-- `xml::compare::has_unlike` meets its contract. The invariant: where there was no hit, the bytes passed are alike. Assumes nothing.
use native.Mathlib.Omega.{arith}
use mathlib.Core.Path.{sym, ◌∙◌}
use Rattle.xml.specs.Alike.{alike-none, alike-more, alike-part}
use Rattle.xml.specs.Truth.{or_left, or_right}
use Rattle.xml.proofs.compare.has_unlike.Goals as goal

pub loop-k-init : goal.loop-k-init
loop-k-init c = (omega arith, λ h. alike-none)

pub overflow_add-i : goal.overflow_add-i
overflow_add-i c = omega arith

pub bounds-src1-i : goal.bounds-src1-i
bounds-src1-i c = omega arith

pub overflow_add-j : goal.overflow_add-j
overflow_add-j c = omega arith

pub bounds-src2-j : goal.bounds-src2-j
bounds-src2-j c = omega arith

pub overflow_step-k : goal.overflow_step-k
overflow_step-k c = omega arith

pub loop-k-smaller : goal.loop-k-smaller
loop-k-smaller c = omega arith

pub loop-k-preserved : goal.loop-k-preserved
loop-k-preserved c = let w = c.loop-k in
    let o = c.is_unlike-hit.result in
    (omega arith, λ h. alike-more (w.invariant.1 (or_left w.hit o h)) (sym c.is_unlike-hit.ensures ∙ or_right w.hit o h))

pub returns : goal.returns
returns c = λ h. alike-part (c.loop-k.invariant.1 h) (omega arith)
