-- `xml::attributes::is_new` meets its contract. Assumes nothing.
use mathlib.Core.Path.{ap, sym, ◌∙◌}
use mathlib.Core.Bool.{not}
use Rattle.xml.specs.FreshNames.{new_none, new-test}
use Rattle.xml.proofs.attributes.is_new.Goals as goal

pub returns-then-name-eq0 : goal.returns-then-name-eq0
returns-then-name-eq0 c = λ used h. sym (new_none used c.args.name.now c.if-name-eq0.true)

pub returns : goal.returns
returns c = λ used h. ap not (c.is_noted.ensures used h) ∙ sym (new-test used c.args.name.now c.requires.2 c.if-name-eq0.false)
