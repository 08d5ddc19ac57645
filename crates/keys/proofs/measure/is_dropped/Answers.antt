-- `keys::measure::is_dropped` meets its contract: above a frontier, and white. Assumes nothing.
use mathlib.Core.Path.{refl, sym, ◌∙◌}
use Rattle.keys.proofs.measure.is_dropped.Goals as goal

pub returns-then-not-is_above : goal.returns-then-not-is_above
returns-then-not-is_above c text K p t e = rw (sym (c.is_above.ensures text K p t e) ∙ c.if-not-is_above.true) refl

pub returns : goal.returns
returns c text K p t e = rw (sym (c.is_above.ensures text K p t e) ∙ c.if-not-is_above.false) c.is_white.ensures
