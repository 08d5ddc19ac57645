-- `xml::tag::until_byte` meets its contract. The invariant: n bytes were passed, none of them c. Assumes nothing.
use mathlib.Core.Path.{sym}
use native.Mathlib.Omega.{arith}
use Rattle.xml.specs.UsedNames.{going_start, going-found, going_on, going-over}
use Rattle.xml.proofs.tag.until_byte.Goals as goal

pub loop-n-init : goal.loop-n-init
loop-n-init c = going_start

pub overflow_add-at : goal.overflow_add-at
overflow_add-at c = let w = c.loop-n.invariant in omega (arith, w.small, c.requires.0, c.requires.1)

pub overflow_add-at-in-loop-n : goal.overflow_add-at-in-loop-n
overflow_add-at-in-loop-n c = let w = c.loop-n.invariant in omega (arith, w.small, c.requires.0, c.requires.1)

pub returns-then-s-at : goal.returns-then-s-at
returns-then-s-at c = let w = c.loop-n.invariant in (sym (going-found w (omega arith) c.if-s-at.true), omega (arith, w.small, c.requires.0))

pub overflow_add-n : goal.overflow_add-n
overflow_add-n c = let w = c.loop-n.invariant in omega (arith, w.small, c.requires.0)

pub loop-n-smaller : goal.loop-n-smaller
loop-n-smaller c = let w = c.loop-n.invariant in omega (arith, w.small)

pub loop-n-preserved : goal.loop-n-preserved
loop-n-preserved c = let w = c.loop-n.invariant in going_on w (omega arith) c.if-s-at.false (omega arith)

pub returns : goal.returns
returns c = let w = c.loop-n.invariant in (sym (going-over w (omega arith)), omega (arith, w.small, c.requires.0))
