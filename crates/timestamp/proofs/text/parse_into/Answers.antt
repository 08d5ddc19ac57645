-- `timestamp::text::parse_into` meets its contract. The loop's invariant: the state of the words and the bound, run over
-- the rest of the text, ends as it does over all of it.
use native.Mathlib.Omega.{arith}
use mathlib.Core.Path.{refl}
use Rattle.timestamp.specs.Set.{set_of}
use Rattle.timestamp.specs.RunAt.{run_none, run-last, run-other, run-comma}
use Rattle.timestamp.proofs.text.parse_into.Goals as goal

pub returns-in_default : goal.returns-in_default
returns-in_default c = (run_none c.args.text.now (set_of c.loop-run.set.words) c.loop-run.p c.loop-run.at c.loop-run.invariant.2 c.in_default.ensures refl, c.loop-run.invariant.1)

pub returns-then-text-at : goal.returns-then-text-at
returns-then-text-at c = let r = c.in-Some.ensures in
    (run-last c.args.text.now (set_of c.loop-run.set.words) c.loop-run.p c.loop-run.at c.loop-run.invariant.2 r.1 (λ z. omega (arith, z, r.0)) c.if-text-at.true _ c.fill.ensures.0, c.fill.ensures.1)

pub returns-then-text-at-ne44 : goal.returns-then-text-at-ne44
returns-then-text-at-ne44 c = let r = c.in-Some.ensures in
    (run-other c.args.text.now (set_of c.loop-run.set.words) c.loop-run.p c.loop-run.at c.loop-run.invariant.2 r.1 (λ z. omega (arith, z, r.0)) (omega (arith, c.if-text-at.false)) c.if-text-at-ne44.true, c.fill.ensures.1)

pub loop-run-preserved : goal.loop-run-preserved
loop-run-preserved c = let r = c.in-Some.ensures in
    (omega (arith, c.if-text-at.false), c.fill.ensures.1, run-comma c.args.text.now (set_of c.loop-run.set.words) c.loop-run.p c.loop-run.at c.loop-run.invariant.2 r.1 (λ z. omega (arith, z, r.0)) (omega (arith, c.if-text-at.false)) c.if-text-at-ne44.false _ c.fill.ensures.0)
