-- `timestamp::text::end_run_at` meets its contract.
use mathlib.Core.Path.{◌≡◌, sym, ◌∙◌}
use native.Mathlib.Omega.{arith}
use lib.ListN.{get_or}
use Rattle.timestamp.specs.RunAt.{none-past, run_alone, none-up, run-both}
use Rattle.timestamp.proofs.text.end_run_at.Goals as goal

pub returns-in_err-first : goal.returns-in_err-first
returns-in_err-first c = let o = c.in_err-first.ensures in rw c.from_residual.ensures (none-past o.0 o.1 (omega arith))

pub returns-then-first-p : goal.returns-then-first-p
returns-then-first-p c = let o = c.in_ok-first.ensures in none-past o.1 o.2 c.if-first-p.true

pub returns-then-byte_at-ne45 : goal.returns-then-byte_at-ne45
returns-then-byte_at-ne45 c = let o = c.in_ok-first.ensures in
    (omega (arith, c.if-first-p.false), run_alone o.1 o.2 (omega (arith, c.if-first-p.false)) (λ e. c.if-byte_at-ne45.true (c.byte_at.ensures ∙ e)))

pub returns-in_err-last : goal.returns-in_err-last
returns-in_err-last c =
    let dash : get_or c.args.text.now c.in_ok-first.first.to 44 ≡ 45 = sym c.byte_at.ensures ∙ c.if-byte_at-ne45.false in
    let o = c.in_ok-first.ensures in
    let q = c.in_err-last.ensures in
    rw c.from_residual-in_err-last.ensures (none-up o.1 o.2 (omega (arith, c.if-first-p.false)) dash q.0 q.1 (omega arith))

pub returns-then-last-first : goal.returns-then-last-first
returns-then-last-first c =
    let dash : get_or c.args.text.now c.in_ok-first.first.to 44 ≡ 45 = sym c.byte_at.ensures ∙ c.if-byte_at-ne45.false in
    let o = c.in_ok-first.ensures in
    let q = c.in_ok-last.ensures in
    none-up o.1 o.2 (omega (arith, c.if-first-p.false)) dash q.1 q.2 c.if-last-first.true

pub returns : goal.returns
returns c =
    let dash : get_or c.args.text.now c.in_ok-first.first.to 44 ≡ 45 = sym c.byte_at.ensures ∙ c.if-byte_at-ne45.false in
    let o = c.in_ok-first.ensures in
    let q = c.in_ok-last.ensures in
    (omega (arith, c.if-last-first.false), run-both o.1 o.2 (omega (arith, c.if-first-p.false)) dash q.1 q.2 (omega (arith, c.if-last-first.false)))
