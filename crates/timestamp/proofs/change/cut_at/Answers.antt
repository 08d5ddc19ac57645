-- `timestamp::change::cut_at` meets its contract.
use native.Mathlib.Omega.{arith}
use Rattle.timestamp.specs.Place.{read-place, run-there}
use Rattle.timestamp.specs.Narrow.{place_inside}
use Rattle.timestamp.specs.Cut.{cut-none, cut-whole, cut-first, cut_inside, cut_low}
use Rattle.timestamp.proofs.change.cut_at.Goals as goal

pub run_at-requires : goal.run_at-requires
run_at-requires c = omega (arith, place_inside c.narrow-at.ensures.here)

pub unwrap-run-requires : goal.unwrap-run-requires
unwrap-run-requires c = run-there c.narrow-at.ensures.here _ c.run_at.ensures

pub returns-then-i-lo : goal.returns-then-i-lo
returns-then-i-lo c = let r = rw c.unwrap-run.ensures at c.run_at.ensures in cut-none c.narrow-at.ensures (read-place c.narrow-at.ensures.here r.1) c.if-i-lo.true

pub returns-then-run-i : goal.returns-then-run-i
returns-then-run-i c = let r = rw c.unwrap-run.ensures at c.run_at.ensures in
    cut-whole c.narrow-at.ensures (read-place c.narrow-at.ensures.here r.1) (omega (arith, c.if-i-lo.false)) c.if-run-i.true

pub size-requires : goal.size-requires
size-requires c = let r = rw c.unwrap-run.ensures at c.run_at.ensures in cut_low c.narrow-at.ensures (read-place c.narrow-at.ensures.here r.1)

pub returns-then-lo-i : goal.returns-then-lo-i
returns-then-lo-i c = let r = rw c.unwrap-run.ensures at c.run_at.ensures in
    cut-first c.narrow-at.ensures (read-place c.narrow-at.ensures.here r.1) (omega (arith, c.if-i-lo.false)) (omega (arith, c.if-run-i.false)) c.size.result c.size.ensures.0 c.if-lo-i.true

pub returns : goal.returns
returns c = let r = rw c.unwrap-run.ensures at c.run_at.ensures in
    cut_inside c.narrow-at.ensures (read-place c.narrow-at.ensures.here r.1) (omega (arith, c.if-i-lo.false)) (omega (arith, c.if-run-i.false)) c.size.result c.size.ensures.0 c.if-lo-i.false
