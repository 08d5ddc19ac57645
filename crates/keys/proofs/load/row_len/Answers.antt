-- The names behind i are counted.
use native.Mathlib.Omega.{arith}
use Rattle.keys.proofs.RowLaws.{row_from, row_within, rowed-fits}
use Rattle.keys.proofs.LoadSteps.{count-starts, count_turn, count-ends, rowed-go}
use Rattle.keys.proofs.load.row_len.Goals as goal

pub loop-i-init : goal.loop-i-init
loop-i-init c = (c.requires, omega arith, count-starts)

pub overflow_add-i : goal.overflow_add-i
overflow_add-i c = omega (arith, row_from c.loop-i.invariant.0.row)

pub overflow_add-i-in-loop-i : goal.overflow_add-i-in-loop-i
overflow_add-i-in-loop-i c = omega arith

pub name_len-m-requires : goal.name_len-m-requires
name_len-m-requires c = omega (arith, row_within c.loop-i.invariant.0.row)

pub overflow_add-i-in-loop-i-2 : goal.overflow_add-i-in-loop-i-2
overflow_add-i-in-loop-i-2 c = omega (arith, rowed-fits c.loop-i.invariant.0 c.loop-i-test.true c.name_len-m.ensures)

pub overflow_add-i-in-loop-i-3 : goal.overflow_add-i-in-loop-i-3
overflow_add-i-in-loop-i-3 c = omega (arith, rowed-fits c.loop-i.invariant.0 c.loop-i-test.true c.name_len-m.ensures)

pub overflow_add-k : goal.overflow_add-k
overflow_add-k c = omega (arith, row_from c.loop-i.invariant.0.row)

pub loop-i-smaller : goal.loop-i-smaller
loop-i-smaller c = omega (arith, rowed-fits c.loop-i.invariant.0 c.loop-i-test.true c.name_len-m.ensures)

pub loop-i-preserved : goal.loop-i-preserved
loop-i-preserved c = let f = rowed-fits c.loop-i.invariant.0 c.loop-i-test.true c.name_len-m.ensures in
    (rowed-go c.loop-i.invariant.0 c.loop-i-test.true c.name_len-m.ensures, omega arith, count_turn c.loop-i.k c.loop-i.invariant.2 c.loop-i-test.true c.name_len-m.ensures)

pub returns : goal.returns
returns c = count-ends c.loop-i.invariant.2 (omega arith)
