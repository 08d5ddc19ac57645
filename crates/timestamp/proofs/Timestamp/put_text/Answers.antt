-- `timestamp::Timestamp::put_text` meets its contract. The loop's invariant (`Written`): what is written, and then the
-- text of the runs from `from` on, is the set's text.
use Prim.Native.Nat.{◌-◌}
use native.Mathlib.Omega.{arith}
use mathlib.Core.Path.{refl}
use Rattle.timestamp.specs.Set.{set_of}
use Rattle.timestamp.specs.First.{first-low}
use Rattle.timestamp.specs.Written.{written_start, written-end, run-inside, run-written}
use Rattle.timestamp.proofs.Timestamp.put_text.Goals as goal

pub loop-lo-init : goal.loop-lo-init
loop-lo-init c = (omega arith, omega arith, written_start refl)

pub put_part-to-requires : goal.put_part-to-requires
put_part-to-requires c = let i = run-inside c.loop-lo.from c.loop-lo.invariant.2 (c.in-Some.lo, c.in-Some.hi) c.in-Some.ensures in (i.0, i.1, i.2, omega (arith, i.3))

pub loop-lo-smaller : goal.loop-lo-smaller
loop-lo-smaller c =
    let i = run-inside c.loop-lo.from c.loop-lo.invariant.2 (c.in-Some.lo, c.in-Some.hi) c.in-Some.ensures in
    omega (arith, i, c.in-Some.ensures.0, first-low (set_of c.args.self.words) (1024 - c.loop-lo.from) c.loop-lo.from)

pub loop-lo-preserved : goal.loop-lo-preserved
loop-lo-preserved c =
    let i = run-inside c.loop-lo.from c.loop-lo.invariant.2 (c.in-Some.lo, c.in-Some.hi) c.in-Some.ensures in
    (omega (arith, i), omega (arith, i), run-written c.loop-lo.from c.loop-lo.invariant.2 (c.in-Some.lo, c.in-Some.hi) c.in-Some.ensures c.put_part-to.ensures)

pub returns : goal.returns
returns c = written-end c.loop-lo.invariant.2 c.in_default.ensures
