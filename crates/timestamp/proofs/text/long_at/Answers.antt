-- `timestamp::text::long_at` meets its contract.
use Prim.Native.Nat.{◌+◌, ◌*◌}
use mathlib.Core.Path.{refl, sym, ◌∙◌}
use native.Mathlib.Omega.{arith}
use Rattle.timestamp.specs.Numbers.{stays, ended-not, ended-none, reads-one, reads_two, reads_three, three-long}
use Rattle.timestamp.proofs.text.long_at.Goals as goal

pub returns-then-is_digit-2 : goal.returns-then-is_digit-2
returns-then-is_digit-2 c = let l = c.args.text.now in
    let f = sym c.is_first.ensures ∙ c.if-is_first.true in
    let g = sym c.is_digit.ensures ∙ c.if-is_digit.true in
    let k = sym c.is_digit-then-is_digit.ensures ∙ c.if-is_digit-2.true in
    let n = 10 * c.two_digits.result + c.digit.result in
    (omega arith, reads_three l c.args.at n f (omega arith) g k (omega (arith, c.two_digits.ensures, c.digit.ensures.0)), three-long l c.args.at n f g k (omega (arith, c.two_digits.ensures, c.digit.ensures.0)))

pub returns-then-is_digit : goal.returns-then-is_digit
returns-then-is_digit c = (
  omega arith,
  reads_two c.args.text.now c.args.at c.two_digits-then-is_digit.result (sym c.is_first.ensures ∙ c.if-is_first.true) (omega arith) (sym c.is_digit.ensures ∙ c.if-is_digit.true) c.two_digits-then-is_digit.ensures,
  ended-not c.args.text.now c.two_digits-then-is_digit.result (c.args.at + 2) (sym c.is_digit-then-is_digit.ensures ∙ c.if-is_digit-2.false),
)

pub returns-then-is_first : goal.returns-then-is_first
returns-then-is_first c = (
  omega arith,
  reads-one c.args.text.now c.args.at c.digit-then-is_first.result (sym c.is_first.ensures ∙ c.if-is_first.true) (omega arith) c.digit-then-is_first.ensures.0,
  ended-not c.args.text.now c.digit-then-is_first.result (c.args.at + 1) (sym c.is_digit.ensures ∙ c.if-is_digit.false),
)

pub returns : goal.returns
returns c = (stays refl refl, ended-none c.args.text.now c.args.at (sym c.is_first.ensures ∙ c.if-is_first.false))
