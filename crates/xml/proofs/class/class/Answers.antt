-- `xml::class::class` meets its contract: the formula, test by test. Assumes nothing.
use mathlib.Core.Path.{sym, ◌∙◌}
use Rattle.xml.specs.ClassNumber.{class_is}
use Rattle.xml.proofs.class.class.Goals as goal

pub returns-then-is_name_start : goal.returns-then-is_name_start
returns-then-is_name_start c = sym
    (class_is c.args.b
    ∙ rw (sym c.is_name_start.ensures ∙ c.if-is_name_start.true))

pub returns-then-is_name_byte : goal.returns-then-is_name_byte
returns-then-is_name_byte c = sym
    (class_is c.args.b
    ∙ rw (sym c.is_name_start.ensures ∙ c.if-is_name_start.false, sym c.is_name_byte.ensures ∙ c.if-is_name_byte.true))

pub returns-then-is_white_byte : goal.returns-then-is_white_byte
returns-then-is_white_byte c = sym
    (class_is c.args.b
    ∙ rw (sym c.is_name_start.ensures ∙ c.if-is_name_start.false, sym c.is_name_byte.ensures ∙ c.if-is_name_byte.false, sym c.is_white_byte.ensures ∙ c.if-is_white_byte.true))

pub returns-then-is_markup : goal.returns-then-is_markup
returns-then-is_markup c = sym
    (class_is c.args.b
    ∙ rw (sym c.is_name_start.ensures ∙ c.if-is_name_start.false, sym c.is_name_byte.ensures ∙ c.if-is_name_byte.false, sym c.is_white_byte.ensures ∙ c.if-is_white_byte.false, sym c.is_markup.ensures ∙ c.if-is_markup.true))

pub returns-then-is_printed : goal.returns-then-is_printed
returns-then-is_printed c = sym
    (class_is c.args.b
    ∙ rw (sym c.is_name_start.ensures ∙ c.if-is_name_start.false, sym c.is_name_byte.ensures ∙ c.if-is_name_byte.false, sym c.is_white_byte.ensures ∙ c.if-is_white_byte.false, sym c.is_markup.ensures ∙ c.if-is_markup.false, sym c.is_printed.ensures ∙ c.if-is_printed.true))

pub returns : goal.returns
returns c = sym
    (class_is c.args.b
    ∙ rw (sym c.is_name_start.ensures ∙ c.if-is_name_start.false, sym c.is_name_byte.ensures ∙ c.if-is_name_byte.false, sym c.is_white_byte.ensures ∙ c.if-is_white_byte.false, sym c.is_markup.ensures ∙ c.if-is_markup.false, sym c.is_printed.ensures ∙ c.if-is_printed.false))
