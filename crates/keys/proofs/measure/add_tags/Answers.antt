-- `keys::measure::add_tags` meets its contract: `T` is no node. Assumes nothing.
use mathlib.Core.Path.{sym, ◌∙◌}
use mathlib.Core.Bool.{true, false}
use Rattle.xml.specs.Bytes.{bytes_compute}
use Rattle.keys.specs.MeasureLaws.{plus-tags}
use Rattle.keys.proofs.measure.add_tags.Goals as goal

pub returns-then-same_bytes : goal.returns-then-same_bytes
unfolding bytes_compute
returns-then-same_bytes c = c.add.ensures ∙ sym (plus-tags c.args.s c.args.name.now true (sym c.same_bytes.ensures ∙ c.if-same_bytes.true))

pub returns : goal.returns
unfolding bytes_compute
returns c = c.add-2.ensures ∙ sym (plus-tags c.args.s c.args.name.now false (sym c.same_bytes.ensures ∙ c.if-same_bytes.false))
