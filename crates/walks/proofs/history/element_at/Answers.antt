-- `element_at` meets its contract.
use mathlib.Core.Path.{sym}
use Rattle.versions.specs.HistoryTape.{element-timed, element-bare}
use Rattle.walks.proofs.history.element_at.Goals as goal

pub returns-then-v-eq2 : goal.returns-then-v-eq2
returns-then-v-eq2 c = sym (element-timed _ _ (rw c.view_at-v.ensures at c.if-v-eq2.true))

pub returns : goal.returns
returns c = sym (element-bare _ _ (rw c.view_at-v.ensures at c.if-v-eq2.false))
