-- `keys::measure::add_text` meets its contract: a run that is dropped adds nothing. Assumes nothing.
use native.Mathlib.Omega.{arith}
use mathlib.Core.Path.{ap, sym, ◌∙◌}
use Rattle.xml.specs.Read.{unescape}
use Rattle.xml.specs.TapeLaws.{length-escape, length-unescape}
use Rattle.keys.specs.Measure.{plus}
use Rattle.keys.specs.MeasureLaws.{text-dropped, text-kept}
use borrow.Author.Rules.{rules}
use Rattle.keys.proofs.measure.add_text.Goals as goal

pub returns-then-is_dropped : goal.returns-then-is_dropped
returns-then-is_dropped c K p t e = sym (text-dropped K p c.args.s (unescape 0 c.args.run.now) (sym (c.is_dropped.ensures c.args.keys.now.text.now K p t e) ∙ c.if-is_dropped.true))

pub add-requires : goal.add-requires
add-requires c = (search rules, omega arith, omega (arith, c.text_len.ensures, length-escape (unescape 0 c.args.run.now), length-unescape 0 c.args.run.now))

pub returns : goal.returns
returns c K p t e = c.add.ensures ∙ ap (plus c.args.s 1) c.text_len.ensures
    ∙ sym (text-kept K p c.args.s (unescape 0 c.args.run.now) (sym (c.is_dropped.ensures c.args.keys.now.text.now K p t e) ∙ c.if-is_dropped.false))
