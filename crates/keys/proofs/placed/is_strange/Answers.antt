-- `keys::placed::is_strange` meets its contract: the place 129 is that of a path not in the list. Assumes nothing.
use mathlib.Core.Path.{sym, ◌∙◌}
use Rattle.xml.specs.Bytes.{bytes_compute}
use Rattle.keys.specs.TableLaws.{table-rules}
use Rattle.keys.specs.Strays.{strange-named, strange-under, strange-below}
use Rattle.keys.proofs.placed.is_strange.Goals as goal

pub returns-then-same_bytes : goal.returns-then-same_bytes
unfolding bytes_compute
returns-then-same_bytes c K p t e d = sym (strange-named K p c.args.name.now (sym c.same_bytes.ensures ∙ c.if-same_bytes.true))

pub returns-then-not-is_above : goal.returns-then-not-is_above
unfolding bytes_compute
returns-then-not-is_above c K p t e d = sym (strange-under K p c.args.name.now (sym c.same_bytes.ensures ∙ c.if-same_bytes.false)
    (sym (c.is_above.ensures c.args.keys.now.text.now K p t e) ∙ c.if-not-is_above.true))

pub returns : goal.returns
unfolding bytes_compute
returns c K p t e d = strange-below K p c.args.name.now (table-rules t) (sym c.same_bytes.ensures ∙ c.if-same_bytes.false)
    (sym (c.is_above.ensures c.args.keys.now.text.now K p t e) ∙ c.if-not-is_above.false) d
