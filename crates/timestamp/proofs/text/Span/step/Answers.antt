-- `timestamp::text::Span::step` meets its contract. A digit after a number below 100 makes one below 1000.
use native.Mathlib.Omega.{arith}
use mathlib.Core.Path.{sym, ◌∙◌}
use Rattle.timestamp.specs.TimesLaws.{digit_low, digit-high}
use Rattle.timestamp.specs.Belongs.{dash-done, digit-done}
use Rattle.timestamp.proofs.text.Span.step.Goals as goal

pub returns-then-is_digit : goal.returns-then-is_digit
returns-then-is_digit c = let d = sym c.is_digit.ensures ∙ c.if-is_digit.true in
    let l = digit_low c.args.b d in
    let h = digit-high c.args.b d in
    (digit-done c.args.self c.args.b _ (λ e. omega arith) (omega (arith, c.digit.ensures.0, c.if-self-lt100.true)), omega (arith, c.digit.ensures.0, c.if-self-lt100.true))

pub returns-then-b-eq45 : goal.returns-then-b-eq45
returns-then-b-eq45 c = (dash-done c.args.self c.args.b c.dash.result c.if-b-eq45.true c.dash.ensures, omega arith)

pub returns : goal.returns
returns c = (digit-done c.args.self c.args.b c.grow.result c.if-b-eq45.false c.grow.ensures, omega (arith, c.grow.ensures))
