-- `xml::tag::same_parts` meets its contract: a law for each return. Assumes nothing.
use mathlib.Core.Path.{sym, ◌∙◌}
use Rattle.std.proofs.lemmas.Slice.{between_is}
use Rattle.xml.specs.TagSame.{alike-other, alike-named}
use Rattle.xml.proofs.tag.same_parts.Goals as goal

pub returns-then-not-same_bytes : goal.returns-then-not-same_bytes
returns-then-not-same_bytes c = sym (alike-other _ _ _ _ (sym (simp between_is at c.same_bytes.ensures) ∙ c.if-not-same_bytes.true))

pub returns : goal.returns
returns c = (simp between_is at c.same_run.ensures) ∙ sym (alike-named _ _ _ _ (sym (simp between_is at c.same_bytes.ensures) ∙ c.if-not-same_bytes.false))
