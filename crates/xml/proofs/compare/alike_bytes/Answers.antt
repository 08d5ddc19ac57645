-- `xml::compare::alike_bytes` meets its contract. The invariant: it holds of the number reached. Assumes nothing.
use native.Mathlib.Omega.{arith}
use mathlib.Core.Path.{sym, ◌∙◌}
use Rattle.xml.specs.Alike.{alike-none, alike-more}
use Rattle.xml.proofs.compare.alike_bytes.Goals as goal

pub loop-n-init : goal.loop-n-init
loop-n-init c = (omega arith, alike-none)

pub overflow_add-i : goal.overflow_add-i
overflow_add-i c = omega arith

pub bounds-src1-i : goal.bounds-src1-i
bounds-src1-i c = omega arith

pub overflow_add-j : goal.overflow_add-j
overflow_add-j c = omega arith

pub bounds-src2-j : goal.bounds-src2-j
bounds-src2-j c = omega arith

pub returns-then-is_unlike : goal.returns-then-is_unlike
returns-then-is_unlike c = c.loop-n.invariant

pub overflow_add-n : goal.overflow_add-n
overflow_add-n c = omega arith

pub loop-n-smaller : goal.loop-n-smaller
loop-n-smaller c = omega arith

pub loop-n-preserved : goal.loop-n-preserved
loop-n-preserved c = (omega arith, alike-more c.loop-n.invariant.1 (sym c.is_unlike.ensures ∙ c.if-is_unlike.false))

pub returns : goal.returns
returns c = c.loop-n.invariant
