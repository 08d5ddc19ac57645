-- `xml::compare::alike_blocks` meets its contract. The invariant: it holds of the number reached. Assumes nothing.
use native.Mathlib.Omega.{arith}
use Rattle.xml.specs.Alike.{alike-none, alike_then}
use Rattle.xml.proofs.compare.alike_blocks.Goals as goal

pub loop-n-init : goal.loop-n-init
loop-n-init c = (omega arith, alike-none)

pub overflow_sub-count : goal.overflow_sub-count
overflow_sub-count c = omega arith

pub overflow_add-i : goal.overflow_add-i
overflow_add-i c = omega arith

pub overflow_add-j : goal.overflow_add-j
overflow_add-j c = omega arith

pub has_unlike-requires : goal.has_unlike-requires
has_unlike-requires c = omega arith

pub returns-then-has_unlike : goal.returns-then-has_unlike
returns-then-has_unlike c = c.loop-n.invariant

pub overflow_add-n : goal.overflow_add-n
overflow_add-n c = omega arith

pub loop-n-smaller : goal.loop-n-smaller
loop-n-smaller c = omega arith

pub loop-n-preserved : goal.loop-n-preserved
loop-n-preserved c = (omega arith, alike_then c.loop-n.invariant.1 (c.has_unlike.ensures c.if-has_unlike.false))

pub returns : goal.returns
returns c = c.loop-n.invariant
