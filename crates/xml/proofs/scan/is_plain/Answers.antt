-- `xml::scan::is_plain` meets its contract: a law for each return. Assumes nothing.
use mathlib.Core.Path.{sym, ◌∙◌, ap}
use mathlib.Core.Bool.{not, not-not}
use Rattle.xml.specs.ByteTests.{is_plain, plain-digit, plain-markup}
use Rattle.xml.proofs.scan.is_plain.Goals as goal

pub returns-then-is_digit : goal.returns-then-is_digit
returns-then-is_digit c = sym (plain-digit c.args.b (sym c.is_digit.ensures ∙ c.if-is_digit.true))

pub returns-then-is_markup : goal.returns-then-is_markup
returns-then-is_markup c = sym (plain-markup c.args.b (sym c.is_markup.ensures ∙ c.if-is_markup.true))

pub returns : goal.returns
returns c = ap not c.is_special.ensures ∙ not-not (is_plain c.args.b)
