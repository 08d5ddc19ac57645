-- `xml::tag::name_end` meets its contract: of a name alone, and of a name before a space. Assumes nothing.
use mathlib.Core.Path.{ap, sym, ◌∙◌}
use lib.ListN.{length}
use Rattle.xml.specs.BytesLaws.{same-is}
use Rattle.xml.specs.TagWritten.{until-name}
use Rattle.xml.proofs.tag.name_end.Goals as goal

pub returns-then-is_bare : goal.returns-then-is_bare
returns-then-is_bare c = ap length (same-is _ _ (sym c.is_bare.ensures ∙ c.if-is_bare.true))

pub returns : goal.returns
returns c = c.until_byte.ensures.0 ∙ until-name c.args.s.now
