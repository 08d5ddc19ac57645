-- `legality::sizes::raise_run` meets its contract. The loop's invariant: the cells from `lo` up to `v` have grown. Assumes nothing.
use native.Mathlib.Omega.{arith}
use mathlib.Core.Path.{◌≡◌}
use Rattle.versions.specs.Grown.{run_none, run-next, run_more}
use Rattle.legality.proofs.sizes.raise_run.Goals as goal

pub loop-v-init : goal.loop-v-init
loop-v-init c = (run_none _ _, run_none _ _)

pub bounds-nodes-v : goal.bounds-nodes-v
bounds-nodes-v c = omega (arith, c.loop-v.invariant.0.count, c.requires.0.count)

pub overflow_add-nodes : goal.overflow_add-nodes
overflow_add-nodes c = omega (arith, run-next _ _ _ c.loop-v.invariant.0 (omega arith) (omega arith), c.requires.0.room c.loop-v.v c.loop-v.auto.v (omega arith))

pub bounds-nodes-v-in-loop-v : goal.bounds-nodes-v-in-loop-v
bounds-nodes-v-in-loop-v c = omega (arith, c.loop-v.invariant.0.count, c.requires.0.count)

pub bounds-bytes-v : goal.bounds-bytes-v
bounds-bytes-v c = omega (arith, c.loop-v.invariant.1.count, c.requires.1.count)

pub overflow_add-bytes : goal.overflow_add-bytes
overflow_add-bytes c = omega (arith, run-next _ _ _ c.loop-v.invariant.1 (omega arith) (omega arith), c.requires.1.room c.loop-v.v c.loop-v.auto.v (omega arith))

pub bounds-bytes-v-in-loop-v : goal.bounds-bytes-v-in-loop-v
bounds-bytes-v-in-loop-v c = omega (arith, c.loop-v.invariant.1.count, c.requires.1.count)

pub loop-v-preserved : goal.loop-v-preserved
loop-v-preserved c = let i = c.loop-v.invariant in
    let l = c.loop-v.auto.v in
    let p = c.requires in (
      run_more _ _ _ i.0 p.0.count (omega (arith, l)) l (omega arith),
      run_more _ _ _ i.1 p.1.count (omega (arith, l)) l (omega arith),
    )

pub shape_of-nodes : goal.shape_of-nodes
shape_of-nodes c = c.loop-v.invariant.0.count

pub shape_of-bytes : goal.shape_of-bytes
shape_of-bytes c = c.loop-v.invariant.1.count

pub returns : goal.returns
returns c = let e : c.loop-v.v ≡ c.args.end = omega arith in (rw e at c.loop-v.invariant.0, rw e at c.loop-v.invariant.1)
