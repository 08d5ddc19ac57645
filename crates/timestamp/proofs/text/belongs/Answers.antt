-- `timestamp::text::belongs` meets its contract. The outer loop's invariant: the pass over the rest of the text, from a
-- fresh run, gives the answer. The inner loop's: with what is read of the run, the pass from here is the one from the run's first byte on.
use Prim.Native.Nat.{◌+◌, ◌<◌}
use native.Mathlib.Omega.{arith}
use mathlib.Core.Path.{◌≡◌, refl, sym, ap, ◌∙◌}
use mathlib.Core.Bool.{Bool, ◌||◌}
use lib.ListN.{length, get_or, drop}
use Rattle.timestamp.specs.Times.{belongs}
use Rattle.timestamp.specs.declared.text.Span.{Span}
use Rattle.timestamp.specs.Belongs.{comma-less, fresh, rests, stepped, rests-step, rests-end, rests-comma, rests-hit, rests-is}
use Rattle.timestamp.proofs.text.belongs.Goals as goal

pub loop-run-init : goal.loop-run-init
loop-run-init c = (omega arith, rests-is c.args.v c.requires c.args.text.now)

pub loop-b-init : goal.loop-b-init
loop-b-init c = (omega arith, c.loop-run.invariant.0, omega arith, c.byte_at-b.ensures, refl)

pub overflow_add-at : goal.overflow_add-at
overflow_add-at c =
    let other : get_or c.args.text.now c.loop-b.at 44 ≡ 44 → ⊥ = λ e. c.loop-b-test.true (c.loop-b.invariant.3 ∙ e) in
    let inside : c.loop-b.at < length c.args.text.now = comma-less c.args.text.now c.loop-b.at (other) in
    omega (arith, inside)

pub loop-b-smaller : goal.loop-b-smaller
loop-b-smaller c =
    let other : get_or c.args.text.now c.loop-b.at 44 ≡ 44 → ⊥ = λ e. c.loop-b-test.true (c.loop-b.invariant.3 ∙ e) in
    let inside : c.loop-b.at < length c.args.text.now = comma-less c.args.text.now c.loop-b.at (other) in
    omega (arith, inside)

pub loop-b-preserved : goal.loop-b-preserved
loop-b-preserved c =
    let other : get_or c.args.text.now c.loop-b.at 44 ≡ 44 → ⊥ = λ e. c.loop-b-test.true (c.loop-b.invariant.3 ∙ e) in
    let inside : c.loop-b.at < length c.args.text.now = comma-less c.args.text.now c.loop-b.at (other) in (
      omega arith,
      omega (arith, inside),
      c.step-run.ensures.1,
      c.byte_at-b-in-loop-b.ensures,
      ap (λ (y : Span). rests y (drop (c.loop-b.at + 1) c.args.text.now) c.args.v) (c.step-run.ensures.0 ∙ ap (stepped c.loop-b.run) c.loop-b.invariant.3)
          ∙ sym (rests-step c.loop-b.run c.args.text.now c.loop-b.at c.args.v other) ∙ c.loop-b.invariant.4,
    )

pub overflow_add-at-in-loop-run : goal.overflow_add-at-in-loop-run
overflow_add-at-in-loop-run c = omega (arith, c.if-text-at.false)

pub loop-run-smaller : goal.loop-run-smaller
loop-run-smaller c = omega (arith, c.if-text-at.false)

pub loop-run-preserved : goal.loop-run-preserved
loop-run-preserved c =
    let begun : belongs c.args.v c.args.text.now ≡ rests c.loop-b.run (drop c.loop-b.at c.args.text.now) c.args.v = sym (c.loop-b.invariant.4 ∙ c.loop-run.invariant.1) in
    let comma : get_or c.args.text.now c.loop-b.at 44 ≡ 44 = sym c.loop-b.invariant.3 ∙ c.loop-b-test.false in (
      omega (arith, c.if-text-at.false),
      sym (begun ∙ rests-comma c.loop-b.run c.args.text.now c.loop-b.at c.args.v (omega (arith, c.if-text-at.false)) comma
          ∙ ap (λ (b : Bool). b || rests fresh (drop (c.loop-b.at + 1) c.args.text.now) c.args.v) (sym c.holds.ensures ∙ c.if-holds.false)),
    )

pub returns-then-holds : goal.returns-then-holds
returns-then-holds c =
    let begun : belongs c.args.v c.args.text.now ≡ rests c.loop-b.run (drop c.loop-b.at c.args.text.now) c.args.v = sym (c.loop-b.invariant.4 ∙ c.loop-run.invariant.1) in
    let comma : get_or c.args.text.now c.loop-b.at 44 ≡ 44 = sym c.loop-b.invariant.3 ∙ c.loop-b-test.false in
    sym (begun ∙ rests-hit c.loop-b.run c.args.text.now c.loop-b.at c.args.v comma (sym c.holds.ensures ∙ c.if-holds.true))

pub returns-then-text-at : goal.returns-then-text-at
returns-then-text-at c =
    let begun : belongs c.args.v c.args.text.now ≡ rests c.loop-b.run (drop c.loop-b.at c.args.text.now) c.args.v = sym (c.loop-b.invariant.4 ∙ c.loop-run.invariant.1) in
    sym (begun ∙ rests-end c.loop-b.run c.args.text.now c.loop-b.at c.args.v (omega (arith, c.if-text-at.true)) ∙ sym c.holds.ensures ∙ c.if-holds.false)
