-- The place and the number of the names behind i, going down from what is known.
use Rattle.std.proofs.lemmas.Slice.{between_is}
use mathlib.Core.Path.{sym}
use lib.Seq.{length-take-le}
use Prim.Native.Nat.{◌+◌}
use native.Mathlib.Omega.{arith}
use Rattle.keys.proofs.RowLaws.{row_from, row_within, rowed-fits}
use Rattle.keys.proofs.LineParts.{context-row, name-bounds}
use Rattle.keys.proofs.ContextLaws.{known-rowed, known-counted, known-walked}
use Rattle.keys.proofs.LoadSteps.{count_turn, count-ends, walk-placed, walk_turn, walk_ends, rowed-go}
use Rattle.keys.proofs.contexts.context_place.Goals as goal

pub loop-i-init : goal.loop-i-init
loop-i-init c = (known-rowed c.requires, omega (arith, c.requires.known_is.short), known-counted c.requires, known-walked c.requires)

pub overflow_add-i : goal.overflow_add-i
overflow_add-i c = omega (arith, row_from c.loop-i.invariant.0.row)

pub overflow_add-i-in-loop-i : goal.overflow_add-i-in-loop-i
overflow_add-i-in-loop-i c = omega arith

pub name_len-m-requires : goal.name_len-m-requires
name_len-m-requires c = omega (arith, row_within c.loop-i.invariant.0.row)

pub slice_bounds-before-end : goal.slice_bounds-before-end
slice_bounds-before-end c = sym (length-take-le c.args.at c.args.text.now (omega (arith, c.requires.line.context-ends, name-bounds c.requires.line)))

pub overflow_add-i-in-loop-i-2 : goal.overflow_add-i-in-loop-i-2
overflow_add-i-in-loop-i-2 c = omega arith

pub overflow_add-i-in-loop-i-3 : goal.overflow_add-i-in-loop-i-3
overflow_add-i-in-loop-i-3 c = omega arith

pub overflow_add-i-in-loop-i-4 : goal.overflow_add-i-in-loop-i-4
overflow_add-i-in-loop-i-4 c = omega (arith, rowed-fits c.loop-i.invariant.0 c.loop-i-test.true c.name_len-m.ensures)

pub child-place-requires : goal.child-place-requires
child-place-requires c = (walk-placed c.args.text.now c.args.at c.args.table.now c.args.n (c.args.at + 1) c.args.end c.loop-i.i c.loop-i.place c.loop-i.invariant.3 (record { keys = c.requires.keys; table = c.requires.table }) (record { names = c.requires.line.key.context; row = context-row c.requires.line }))

pub overflow_add-depth : goal.overflow_add-depth
overflow_add-depth c = omega (arith, row_from c.loop-i.invariant.0.row)

pub overflow_add-i-in-loop-i-5 : goal.overflow_add-i-in-loop-i-5
overflow_add-i-in-loop-i-5 c = omega (arith, rowed-fits c.loop-i.invariant.0 c.loop-i-test.true c.name_len-m.ensures)

pub overflow_add-i-in-loop-i-6 : goal.overflow_add-i-in-loop-i-6
overflow_add-i-in-loop-i-6 c = omega (arith, rowed-fits c.loop-i.invariant.0 c.loop-i-test.true c.name_len-m.ensures)

pub loop-i-smaller : goal.loop-i-smaller
loop-i-smaller c = omega (arith, rowed-fits c.loop-i.invariant.0 c.loop-i-test.true c.name_len-m.ensures)

pub loop-i-preserved : goal.loop-i-preserved
loop-i-preserved c = let f = rowed-fits c.loop-i.invariant.0 c.loop-i-test.true c.name_len-m.ensures in (
  rowed-go c.loop-i.invariant.0 c.loop-i-test.true c.name_len-m.ensures,
  omega arith,
  count_turn c.loop-i.depth c.loop-i.invariant.2 c.loop-i-test.true c.name_len-m.ensures,
  walk_turn c.args.text.now c.args.at c.args.table.now c.args.n (c.args.at + 1) c.args.end c.loop-i.i c.loop-i.place c.loop-i.invariant.3 c.name_len-m.result c.child-place.result c.loop-i-test.true c.name_len-m.ensures (simp between_is at c.child-place.ensures),
)

pub returns : goal.returns
returns c = (
  walk_ends c.args.text.now c.args.at c.args.table.now c.args.n (c.args.at + 1) c.args.end c.loop-i.i c.loop-i.place c.loop-i.invariant.3 (omega arith),
  count-ends c.loop-i.invariant.2 (omega arith),
)
