-- `timestamp::text::short_at` meets its contract.
use Prim.Native.Nat.{◌+◌}
use mathlib.Core.Path.{refl, sym, ◌∙◌}
use native.Mathlib.Omega.{arith}
use Rattle.timestamp.specs.Numbers.{stays, ended-past, ended-not, ended-none, reads-one, reads_two}
use Rattle.timestamp.proofs.text.short_at.Goals as goal

pub returns-then-text-at : goal.returns-then-text-at
returns-then-text-at c = (stays refl refl, ended-past c.args.text.now 0 c.args.at (omega arith))

pub returns-then-text-at-lt2 : goal.returns-then-text-at-lt2
returns-then-text-at-lt2 c = (
  omega arith,
  reads-one c.args.text.now c.args.at c.digit.result (sym c.is_first.ensures ∙ c.if-is_first.true) (omega arith) c.digit.ensures.0,
  ended-past c.args.text.now c.digit.result (c.args.at + 1) (omega arith),
)

pub returns-then-is_digit : goal.returns-then-is_digit
returns-then-is_digit c = (
  omega arith,
  reads_two c.args.text.now c.args.at c.two_digits.result (sym c.is_first.ensures ∙ c.if-is_first.true) (omega arith) (sym c.is_digit.ensures ∙ c.if-is_digit.true) c.two_digits.ensures,
  ended-past c.args.text.now c.two_digits.result (c.args.at + 2) (omega arith),
)

pub returns-then-is_first : goal.returns-then-is_first
returns-then-is_first c = (
  omega arith,
  reads-one c.args.text.now c.args.at c.digit-then-is_first.result (sym c.is_first.ensures ∙ c.if-is_first.true) (omega arith) c.digit-then-is_first.ensures.0,
  ended-not c.args.text.now c.digit-then-is_first.result (c.args.at + 1) (sym c.is_digit.ensures ∙ c.if-is_digit.false),
)

pub returns : goal.returns
returns c = (stays refl refl, ended-none c.args.text.now c.args.at (sym c.is_first.ensures ∙ c.if-is_first.false))
