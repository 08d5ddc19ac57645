-- `compare_bytes` meets its contract: the library's order is that of the definitions.
use mathlib.Core.Path.{ap, ◌∙◌}
use Rattle.std.specs.Ordering.{ordering_index}
use Rattle.keys.specs.Ranks.{bytes-compare}
use Rattle.keys.proofs.label.compare_bytes.Goals as goal

pub returns : goal.returns
returns c = ap ordering_index c.cmp.ensures ∙ bytes-compare c.args.s.now c.args.t.now
