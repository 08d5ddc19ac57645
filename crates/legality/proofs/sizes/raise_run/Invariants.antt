-- `legality::sizes::raise_run` meets its contract. The loop's invariant: the cells from `lo` up to `v` have grown. Assumes nothing.
use Rattle.versions.specs.Sizes.{when_in}
use Rattle.versions.specs.Grown.{Grown, in_run}
use Rattle.legality.proofs.sizes.raise_run.Given as goal

abbrev pub invariant-loop-v : goal.invariant-loop-v
invariant-loop-v l = Grown l.initial.nodes l.nodes (λ u. when_in (in_run l.lo l.v u) l.x) × Grown l.initial.bytes l.bytes (λ u. when_in (in_run l.lo l.v u) l.y)
