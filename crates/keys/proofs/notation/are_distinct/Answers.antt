-- The names from i on are distinct exactly if all are.
use Rattle.std.proofs.lemmas.Slice.{between_is}
use native.Mathlib.Omega.{arith}
use Rattle.xml.specs.Bytes.{distinct, same}
use Rattle.keys.proofs.RowLaws.{along-starts, distinct-found, distinct-turn, distinct-ends, row_within, row_from, rowed-fits, rowed-turn, rowed-next}
use Rattle.keys.proofs.notation.are_distinct.Goals as goal

pub loop-i-init : goal.loop-i-init
loop-i-init c = (c.requires, along-starts (distinct same) c.args.from)

pub overflow_add-i : goal.overflow_add-i
overflow_add-i c = omega (arith, row_from c.loop-i.invariant.0.row)

pub overflow_add-i-in-loop-i : goal.overflow_add-i-in-loop-i
overflow_add-i-in-loop-i c = omega arith

pub name_len-n-requires : goal.name_len-n-requires
name_len-n-requires c = omega (arith, row_within c.loop-i.invariant.0.row)

pub overflow_add-i-in-loop-i-2 : goal.overflow_add-i-in-loop-i-2
overflow_add-i-in-loop-i-2 c = omega arith

pub overflow_add-i-in-loop-i-3 : goal.overflow_add-i-in-loop-i-3
overflow_add-i-in-loop-i-3 c = omega (arith, rowed-fits c.loop-i.invariant.0 c.loop-i-test.true c.name_len-n.ensures)

pub overflow_add-i-in-loop-i-4 : goal.overflow_add-i-in-loop-i-4
overflow_add-i-in-loop-i-4 c = omega arith

pub overflow_add-i-in-loop-i-5 : goal.overflow_add-i-in-loop-i-5
overflow_add-i-in-loop-i-5 c = omega arith

pub overflow_add-i-in-loop-i-6 : goal.overflow_add-i-in-loop-i-6
overflow_add-i-in-loop-i-6 c = omega (arith, rowed-fits c.loop-i.invariant.0 c.loop-i-test.true c.name_len-n.ensures)

pub slice_bounds-is_among-end : goal.slice_bounds-is_among-end
slice_bounds-is_among-end c = let f = rowed-fits c.loop-i.invariant.0 c.loop-i-test.true c.name_len-n.ensures in omega arith

pub is_among-requires : goal.is_among-requires
is_among-requires c = let f = rowed-fits c.loop-i.invariant.0 c.loop-i-test.true c.name_len-n.ensures in
    rowed-next c.loop-i.invariant.0 c.loop-i-test.true c.name_len-n.ensures

pub returns-then-is_among : goal.returns-then-is_among
returns-then-is_among c = distinct-found c.loop-i.invariant.1 c.loop-i-test.true c.name_len-n.ensures (simp between_is at c.is_among.ensures) c.if-is_among.true

pub overflow_add-i-in-loop-i-7 : goal.overflow_add-i-in-loop-i-7
overflow_add-i-in-loop-i-7 c = omega (arith, rowed-fits c.loop-i.invariant.0 c.loop-i-test.true c.name_len-n.ensures)

pub overflow_add-i-in-loop-i-8 : goal.overflow_add-i-in-loop-i-8
overflow_add-i-in-loop-i-8 c = omega (arith, rowed-fits c.loop-i.invariant.0 c.loop-i-test.true c.name_len-n.ensures)

pub loop-i-smaller : goal.loop-i-smaller
loop-i-smaller c = omega (arith, rowed-fits c.loop-i.invariant.0 c.loop-i-test.true c.name_len-n.ensures)

pub loop-i-preserved : goal.loop-i-preserved
loop-i-preserved c = (rowed-turn c.loop-i.invariant.0 c.loop-i-test.true c.name_len-n.ensures, distinct-turn c.loop-i.invariant.1 c.loop-i-test.true c.name_len-n.ensures (simp between_is at c.is_among.ensures) c.if-is_among.false)

pub returns : goal.returns
returns c = distinct-ends c.loop-i.invariant.1 (omega arith)
