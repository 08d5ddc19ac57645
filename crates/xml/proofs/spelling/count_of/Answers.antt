-- `xml::spelling::count_of` meets its contract: one block after the other is counted, and then the rest. Assumes nothing.
use native.Mathlib.Omega.{arith}
use Rattle.xml.specs.NeatLaws.{count_most}
use Rattle.xml.proofs.spelling.count_of.Goals as goal

pub loop-i-init : goal.loop-i-init
loop-i-init c = (omega arith, omega arith)

pub overflow_sub-src : goal.overflow_sub-src
overflow_sub-src c = omega arith

pub count_block-requires : goal.count_block-requires
count_block-requires c = omega arith

pub overflow_add-n : goal.overflow_add-n
overflow_add-n c = omega (arith, c.loop-i.invariant.1, c.count_block.ensures, count_most c.args.b c.args.src.now)

pub overflow_add-i : goal.overflow_add-i
overflow_add-i c = omega arith

pub loop-i-smaller : goal.loop-i-smaller
loop-i-smaller c = omega arith

pub loop-i-preserved : goal.loop-i-preserved
loop-i-preserved c = (omega arith, omega (arith, c.loop-i.invariant.1, c.count_block.ensures))

pub overflow_add-result : goal.overflow_add-result
overflow_add-result c = omega (arith, c.loop-i.invariant.1, c.count_rest.ensures, count_most c.args.b c.args.src.now)

pub returns : goal.returns
returns c = omega (arith, c.loop-i.invariant.1, c.count_rest.ensures)
