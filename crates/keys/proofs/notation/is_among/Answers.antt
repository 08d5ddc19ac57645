-- The names from i on have the answer of all of them.
use Rattle.std.proofs.lemmas.Slice.{between_is}
use native.Mathlib.Omega.{arith}
use mathlib.Core.Path.{sym, ◌∙◌}
use Rattle.xml.specs.Bytes.{any, same}
use Rattle.keys.proofs.RowLaws.{along-starts, among-found, among-turn, among-ends, row_within, row_from, rowed-fits, rowed-turn}
use Rattle.keys.proofs.notation.is_among.Goals as goal

pub loop-i-init : goal.loop-i-init
loop-i-init c = (c.requires, along-starts (any (same c.args.word.now)) c.args.from)

pub overflow_add-i : goal.overflow_add-i
overflow_add-i c = omega (arith, row_from c.loop-i.invariant.0.row)

pub overflow_add-i-in-loop-i : goal.overflow_add-i-in-loop-i
overflow_add-i-in-loop-i c = omega arith

pub name_len-n-requires : goal.name_len-n-requires
name_len-n-requires c = omega (arith, row_within c.loop-i.invariant.0.row)

pub overflow_add-i-in-loop-i-2 : goal.overflow_add-i-in-loop-i-2
overflow_add-i-in-loop-i-2 c = omega arith

pub overflow_add-i-in-loop-i-3 : goal.overflow_add-i-in-loop-i-3
overflow_add-i-in-loop-i-3 c = omega arith

pub overflow_add-i-in-loop-i-4 : goal.overflow_add-i-in-loop-i-4
overflow_add-i-in-loop-i-4 c = omega (arith, rowed-fits c.loop-i.invariant.0 c.loop-i-test.true c.name_len-n.ensures)

pub slice_bounds-same_bytes-end : goal.slice_bounds-same_bytes-end
slice_bounds-same_bytes-end c = let f = rowed-fits c.loop-i.invariant.0 c.loop-i-test.true c.name_len-n.ensures in omega arith

pub returns-then-same_bytes : goal.returns-then-same_bytes
returns-then-same_bytes c = among-found c.args.word.now c.loop-i.invariant.1 c.loop-i-test.true c.name_len-n.ensures (sym (simp between_is at c.same_bytes.ensures) ∙ c.if-same_bytes.true)

pub overflow_add-i-in-loop-i-5 : goal.overflow_add-i-in-loop-i-5
overflow_add-i-in-loop-i-5 c = omega (arith, rowed-fits c.loop-i.invariant.0 c.loop-i-test.true c.name_len-n.ensures)

pub overflow_add-i-in-loop-i-6 : goal.overflow_add-i-in-loop-i-6
overflow_add-i-in-loop-i-6 c = omega (arith, rowed-fits c.loop-i.invariant.0 c.loop-i-test.true c.name_len-n.ensures)

pub loop-i-smaller : goal.loop-i-smaller
loop-i-smaller c = omega (arith, rowed-fits c.loop-i.invariant.0 c.loop-i-test.true c.name_len-n.ensures)

pub loop-i-preserved : goal.loop-i-preserved
loop-i-preserved c = (rowed-turn c.loop-i.invariant.0 c.loop-i-test.true c.name_len-n.ensures, among-turn c.args.word.now c.loop-i.invariant.1 c.loop-i-test.true c.name_len-n.ensures (sym (simp between_is at c.same_bytes.ensures) ∙ c.if-same_bytes.false))

pub returns : goal.returns
returns c = among-ends c.args.word.now c.loop-i.invariant.1 (omega arith)
