-- `rank_of` meets its contract: the label before `low` is lower, that at `high` is higher.
use native.Mathlib.Omega.{arith}
use mathlib.Core.Path.{ap}
use Rattle.std.specs.Ordering.{ordering_index}
use Rattle.keys.specs.ResultLaws.{none-not, some-is}
use Rattle.keys.specs.Gathering.{ranking-start, ranking-done, ranking-at, ranking-same, ranking-above, ranking-below}
use Rattle.keys.proofs.order.rank_of.Goals as goal

pub loop-low-init : goal.loop-low-init
loop-low-init c = (omega arith, omega arith, λ K q t e m i a b lo hi s h. ranking-start h)

pub probe-mid-requires : goal.probe-mid-requires
probe-mid-requires c = (c.loop-low-test.true, omega (arith, c.loop-low.invariant.1, c.requires.0))

pub offset_bounds-order-mid : goal.offset_bounds-order-mid
offset_bounds-order-mid c = omega (arith, c.probe-mid.ensures.1, c.loop-low.invariant.1, c.requires.0)

pub bounds-order-mid : goal.bounds-order-mid
bounds-order-mid c = omega (arith, c.probe-mid.ensures.1, c.loop-low.invariant.1, c.requires.0)

pub overflow_cast-q : goal.overflow_cast-q
overflow_cast-q c = omega (arith, (c.requires.2 c.probe-mid.result (omega (arith, c.probe-mid.ensures.1, c.loop-low.invariant.1))).node.held)

pub compare_labels-requires : goal.compare_labels-requires
compare_labels-requires c = (c.requires.2 c.probe-mid.result (omega (arith, c.probe-mid.ensures.1, c.loop-low.invariant.1)), c.requires.3)

pub returns-in-Equal : goal.returns-in-Equal
returns-in-Equal c = record {
  inside = λ j d. none-not d;
  rank = λ K q t e m i a b lo hi s h.
      let x = c.loop-low.invariant.2 K q t e m i a b lo hi s h in
      let z = ranking-at x c.probe-mid.result c.probe-mid.ensures.0 c.probe-mid.ensures.1 in
      ranking-same x c.probe-mid.result c.probe-mid.ensures.0 c.probe-mid.ensures.1 (ordering_index c.compare_labels.result) (c.compare_labels.ensures K q t e z.name z.kids m i z.entry.node z.entry.inner a b) (ap ordering_index c.in-Equal.is);
}

pub overflow_add-low : goal.overflow_add-low
overflow_add-low c = omega (arith, c.probe-mid.ensures.1, c.loop-low.invariant.1, c.requires.0)

pub loop-low-smaller-in-Less : goal.loop-low-smaller-in-Less
loop-low-smaller-in-Less c = omega (arith, c.probe-mid.ensures.0, c.probe-mid.ensures.1)

pub loop-low-preserved-in-Less : goal.loop-low-preserved-in-Less
loop-low-preserved-in-Less c = (
  omega (arith, c.probe-mid.ensures.1),
  c.loop-low.invariant.1,
  λ K q t e m i a b lo hi s h.
      let x = c.loop-low.invariant.2 K q t e m i a b lo hi s h in
      let z = ranking-at x c.probe-mid.result c.probe-mid.ensures.0 c.probe-mid.ensures.1 in
      ranking-above x c.probe-mid.result c.probe-mid.ensures.0 c.probe-mid.ensures.1 (ordering_index c.compare_labels.result) (c.compare_labels.ensures K q t e z.name z.kids m i z.entry.node z.entry.inner a b) (ap ordering_index c.in-Less.is),
)

pub loop-low-smaller : goal.loop-low-smaller
loop-low-smaller c = omega (arith, c.probe-mid.ensures.0, c.probe-mid.ensures.1)

pub loop-low-preserved : goal.loop-low-preserved
loop-low-preserved c = (
  c.probe-mid.ensures.0,
  omega (arith, c.probe-mid.ensures.1, c.loop-low.invariant.1),
  λ K q t e m i a b lo hi s h.
      let x = c.loop-low.invariant.2 K q t e m i a b lo hi s h in
      let z = ranking-at x c.probe-mid.result c.probe-mid.ensures.0 c.probe-mid.ensures.1 in
      ranking-below x c.probe-mid.result c.probe-mid.ensures.0 c.probe-mid.ensures.1 (ordering_index c.compare_labels.result) (c.compare_labels.ensures K q t e z.name z.kids m i z.entry.node z.entry.inner a b) (λ y. let g = ap ordering_index c.in-Greater.is in omega arith) (λ y. let g = ap ordering_index c.in-Greater.is in omega arith),
)

pub returns : goal.returns
returns c = record {
  inside = λ j d. omega (arith, some-is d, c.loop-low.invariant.0, c.loop-low.invariant.1);
  rank = λ K q t e m i a b lo hi s h. ranking-done (c.loop-low.invariant.2 K q t e m i a b lo hi s h) c.loop-low-test.false;
}
