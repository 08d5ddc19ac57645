-- Each turn of the loop takes one digit, and its ends are those of the definition.
use Rattle.std.proofs.Common.{rules, ◌≡◌, None, sym, ◌∙◌, ap, drop, ◌+◌}
use Rattle.station.specs.Number.{number_from, number-empty, number-start, number-end, number-stop, number_step}
use Rattle.station.proofs.number.number.Goals as goal

pub returns-then-is_empty : goal.returns-then-is_empty
returns-then-is_empty c = number-empty c.args.word.now (search rules)

pub loop-b-init : goal.loop-b-init
loop-b-init c = (search rules, number-start c.args.word.now (search rules))

pub returns-in_err-digit : goal.returns-in_err-digit
returns-in_err-digit c =
    let here : c.from_residual.result ≡ None = search rules in
    here ∙ sym (number-stop c.args.word.now c.loop-b.value c.loop-b.b-index (search rules) (search rules)) ∙ c.loop-b.invariant.1

pub loop-b-preserved : goal.loop-b-preserved
loop-b-preserved c = (
  search rules,
  (ap (λ k. number_from k (drop (c.loop-b.b-index + 1) c.args.word.now)) (search rules) ∙ sym (number_step c.args.word.now c.loop-b.value c.loop-b.b-index c.in_ok-digit.field-0 (search rules) (search rules))) ∙ c.loop-b.invariant.1,
)

pub returns : goal.returns
returns c = sym (number-end c.args.word.now c.loop-b.value c.loop-b.b-index (search rules)) ∙ c.loop-b.invariant.1
