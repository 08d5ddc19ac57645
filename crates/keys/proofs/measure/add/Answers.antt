-- `keys::measure::add` meets its contract: by the two limits. Assumes nothing.
use native.Mathlib.Omega.{arith}
use mathlib.Core.Path.{sym, ◌∙◌}
use Rattle.keys.specs.MeasureLaws.{plus-many, plus-long, plus-fits}
use Rattle.keys.proofs.measure.add.Goals as goal

pub returns-then-s-nodes-gt512 : goal.returns-then-s-nodes-gt512
returns-then-s-nodes-gt512 c = c.over.ensures ∙ sym (plus-many c.args.s c.args.nodes c.args.bytes c.if-s-nodes-gt512.true)

pub returns-then-s-bytes-gt16384 : goal.returns-then-s-bytes-gt16384
returns-then-s-bytes-gt16384 c = c.over-then-s-bytes-gt16384.ensures ∙ sym (plus-long c.args.s c.args.nodes c.args.bytes (omega arith) c.if-s-bytes-gt16384.true)

pub returns : goal.returns
returns c = sym (plus-fits c.args.s c.args.nodes c.args.bytes (omega arith) (omega arith))
