-- `timestamp::text::take_text` meets its contract. The loop's invariant (`TakingText`): the runs before `at` are taken out of the words.
use native.Mathlib.Omega.{arith}
use borrow.Author.Rules.{rules}
use mathlib.Core.Path.{refl}
use Rattle.timestamp.specs.TakenText.{text-start, text-none, text-lacks, text-last, text-other, text-more}
use Rattle.timestamp.proofs.text.take_text.Goals as goal

pub loop-run-init : goal.loop-run-init
loop-run-init c = text-start _ _ (search rules)

pub returns-in_err-run : goal.returns-in_err-run
returns-in_err-run c = rw c.from_residual.ensures (text-none c.loop-run.invariant c.in_err-run.ensures refl)

pub returns-then-not-take_run : goal.returns-then-not-take_run
returns-then-not-take_run c = let r = c.in_ok-run.ensures in text-lacks c.loop-run.invariant r.1 (λ z. omega (arith, z, r.0)) _ c.take_run.ensures c.if-not-take_run.true

pub returns-then-text-at : goal.returns-then-text-at
returns-then-text-at c = let r = c.in_ok-run.ensures in
    rw c.unwrap_or-start.ensures (text-last c.loop-run.invariant r.1 (λ z. omega (arith, z, r.0)) _ c.take_run.ensures c.if-not-take_run.false c.if-text-at.true)

pub returns-then-text-at-ne44 : goal.returns-then-text-at-ne44
returns-then-text-at-ne44 c = let r = c.in_ok-run.ensures in
    text-other c.loop-run.invariant r.1 (λ z. omega (arith, z, r.0)) _ c.take_run.ensures c.if-not-take_run.false (omega (arith, c.if-text-at.false)) c.if-text-at-ne44.true

pub loop-run-preserved : goal.loop-run-preserved
loop-run-preserved c = let r = c.in_ok-run.ensures in
    rw c.unwrap_or-start.ensures (text-more c.loop-run.invariant r.1 (λ z. omega (arith, z, r.0)) _ c.take_run.ensures c.if-not-take_run.false (omega (arith, c.if-text-at.false)) c.if-text-at-ne44.false)
