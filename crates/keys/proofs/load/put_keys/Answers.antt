-- The entries of the key names behind i are written, and nothing below them is changed.
use Prim.Native.Nat.{◌+◌}
use native.Mathlib.Omega.{arith}
use lib.ListN.{drop}
use Rattle.keys.proofs.RowLaws.{row_from, row_within, rowed-fits, rowed-turn}
use Rattle.keys.proofs.LoadCells.{keys-start, keys-fit, keys-turn, keys-end, len-32}
use Rattle.keys.proofs.load.put_keys.Goals as goal

pub overflow_add-k : goal.overflow_add-k
overflow_add-k c = omega (arith, c.requires.few)

pub loop-i-init : goal.loop-i-init
loop-i-init c = (record { names = c.requires.names; row = c.requires.row }, omega arith, keys-start c.args.text.now c.args.table.now c.args.n c.args.from c.args.end)

pub overflow_add-i : goal.overflow_add-i
overflow_add-i c = omega (arith, row_from c.loop-i.invariant.0.row)

pub overflow_add-i-in-loop-i : goal.overflow_add-i-in-loop-i
overflow_add-i-in-loop-i c = omega arith

pub name_len-m-requires : goal.name_len-m-requires
name_len-m-requires c = omega (arith, row_within c.loop-i.invariant.0.row)

pub overflow_add-i-in-loop-i-2 : goal.overflow_add-i-in-loop-i-2
overflow_add-i-in-loop-i-2 c = omega arith

pub overflow_add-i-in-loop-i-3 : goal.overflow_add-i-in-loop-i-3
overflow_add-i-in-loop-i-3 c = omega arith

pub overflow_add-i-in-loop-i-4 : goal.overflow_add-i-in-loop-i-4
overflow_add-i-in-loop-i-4 c = omega (arith, rowed-fits c.loop-i.invariant.0 c.loop-i-test.true c.name_len-m.ensures)

pub overflow_mul-n : goal.overflow_mul-n
overflow_mul-n c = omega (arith, c.requires.few)

pub put_path-requires : goal.put_path-requires
put_path-requires c = let f = rowed-fits c.loop-i.invariant.0 c.loop-i-test.true c.name_len-m.ensures in
    let s = c.requires.short in
    let w = c.requires.few in
    let q = c.name_len-m.ensures in
    let l = len-32 (drop (c.loop-i.i + 2) c.args.text.now) in
    (keys-fit c.loop-i.invariant.2 c.loop-i-test.true c.name_len-m.ensures c.requires, omega arith, omega arith, omega arith, omega arith)

pub overflow_add-i-in-loop-i-5 : goal.overflow_add-i-in-loop-i-5
overflow_add-i-in-loop-i-5 c = omega (arith, rowed-fits c.loop-i.invariant.0 c.loop-i-test.true c.name_len-m.ensures)

pub overflow_add-i-in-loop-i-6 : goal.overflow_add-i-in-loop-i-6
overflow_add-i-in-loop-i-6 c = omega (arith, rowed-fits c.loop-i.invariant.0 c.loop-i-test.true c.name_len-m.ensures)

pub overflow_add-k-in-loop-i : goal.overflow_add-k-in-loop-i
overflow_add-k-in-loop-i c = omega (arith, keys-fit c.loop-i.invariant.2 c.loop-i-test.true c.name_len-m.ensures c.requires)

pub loop-i-smaller : goal.loop-i-smaller
loop-i-smaller c = omega (arith, rowed-fits c.loop-i.invariant.0 c.loop-i-test.true c.name_len-m.ensures)

pub loop-i-preserved : goal.loop-i-preserved
loop-i-preserved c = let l = len-32 (drop (c.loop-i.i + 2) c.args.text.now) in
    let q = c.name_len-m.ensures in (
      rowed-turn c.loop-i.invariant.0 c.loop-i-test.true c.name_len-m.ensures,
      omega arith,
      keys-turn c.loop-i.invariant.2 c.loop-i-test.true c.name_len-m.ensures c.requires (omega arith) c.put_path.ensures c.loop-i.invariant.1,
    )

pub shape_of-table : goal.shape_of-table
shape_of-table c = c.loop-i.invariant.2.size

pub returns : goal.returns
returns c = keys-end c.loop-i.invariant.2 (omega arith)
