-- `archive::open::weight` meets its contract: one return for each answer of `is_timed`. Assumes nothing.
use mathlib.Core.Path.{sym, ◌∙◌, ap}
use Rattle.versions.specs.NodeCount.{weight}
use Rattle.legality.proofs.open.weight.Goals as goal

pub returns-then-is_timed : goal.returns-then-is_timed
returns-then-is_timed c = sym (ap weight (sym c.is_timed.ensures ∙ c.if-is_timed.true))

pub returns : goal.returns
returns c = sym (ap weight (sym c.is_timed.ensures ∙ c.if-is_timed.false))
