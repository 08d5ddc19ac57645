-- `timestamp::text::run_at` meets its contract.
use Prim.Native.Nat.{◌<◌}
use mathlib.Core.Path.{◌≡◌, sym, ◌∙◌}
use native.Mathlib.Omega.{arith}
use lib.ListN.{length, get_or}
use Rattle.timestamp.specs.Belongs.{inside-default}
use Rattle.timestamp.specs.Numbers.{number-near}
use Rattle.timestamp.specs.RunAt.{none-past, run_alone, none-up, run-both}
use Rattle.timestamp.proofs.text.run_at.Goals as goal

pub returns-in_err-first : goal.returns-in_err-first
returns-in_err-first c = let o = c.in_err-first.ensures in rw c.from_residual.ensures (none-past o.0 o.1 (omega arith))

pub returns-then-first-p : goal.returns-then-first-p
returns-then-first-p c = let o = c.in_ok-first.ensures in none-past o.1 o.2 c.if-first-p.true

pub bounds-text-first : goal.bounds-text-first
bounds-text-first c =
    let inside : c.in_ok-first.first.to < length c.args.text.now = omega (arith, number-near c.in_ok-first.ensures.1 (omega arith), c.if-text-at-lt7.false) in inside

pub returns-then-text-first-ne45 : goal.returns-then-text-first-ne45
returns-then-text-first-ne45 c =
    let o = c.in_ok-first.ensures in
    let to = c.in_ok-first.first.to in
    let inside : to < length c.args.text.now = omega (arith, number-near o.1 (omega arith), c.if-text-at-lt7.false) in
    (omega (arith, c.if-first-p.false), run_alone o.1 o.2 (omega (arith, c.if-first-p.false)) (λ e. c.if-text-first-ne45.true (inside-default c.args.text.now to inside ∙ e)))

pub long_at-requires-2 : goal.long_at-requires-2
long_at-requires-2 c = omega (arith, number-near c.in_ok-first.ensures.1 (omega arith), c.if-text-at-lt7.false)

pub returns-in_err-last : goal.returns-in_err-last
returns-in_err-last c =
    let o = c.in_ok-first.ensures in
    let q = c.in_err-last.ensures in
    let to = c.in_ok-first.first.to in
    let inside : to < length c.args.text.now = omega (arith, number-near o.1 (omega arith), c.if-text-at-lt7.false) in
    let dash : get_or c.args.text.now to 44 ≡ 45 = sym (inside-default c.args.text.now to inside) ∙ c.if-text-first-ne45.false in
    rw c.from_residual-in_err-last.ensures (none-up o.1 o.2 (omega (arith, c.if-first-p.false)) dash q.0 q.1 (omega arith))

pub returns-then-last-first : goal.returns-then-last-first
returns-then-last-first c =
    let o = c.in_ok-first.ensures in
    let q = c.in_ok-last.ensures in
    let to = c.in_ok-first.first.to in
    let inside : to < length c.args.text.now = omega (arith, number-near o.1 (omega arith), c.if-text-at-lt7.false) in
    let dash : get_or c.args.text.now to 44 ≡ 45 = sym (inside-default c.args.text.now to inside) ∙ c.if-text-first-ne45.false in
    none-up o.1 o.2 (omega (arith, c.if-first-p.false)) dash q.1 q.2 c.if-last-first.true

pub returns : goal.returns
returns c =
    let o = c.in_ok-first.ensures in
    let q = c.in_ok-last.ensures in
    let to = c.in_ok-first.first.to in
    let inside : to < length c.args.text.now = omega (arith, number-near o.1 (omega arith), c.if-text-at-lt7.false) in
    let dash : get_or c.args.text.now to 44 ≡ 45 = sym (inside-default c.args.text.now to inside) ∙ c.if-text-first-ne45.false in
    (omega (arith, c.if-last-first.false), run-both o.1 o.2 (omega (arith, c.if-first-p.false)) dash q.1 q.2 (omega (arith, c.if-last-first.false)))
