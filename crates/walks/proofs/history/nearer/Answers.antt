-- `nearer` meets its contract.
use native.Mathlib.Omega.{arith}
use Rattle.std.proofs.Common.{◌∙◌}
use Rattle.versions.specs.TimedLaws.{part_slice}
use Rattle.walks.specs.HistoryParts.{near-timed, near-bare}
use Rattle.walks.proofs.history.nearer.Goals as goal

pub returns-then-v-eq2 : goal.returns-then-v-eq2
returns-then-v-eq2 c = rw c.view-v.ensures (part_slice _ _ c.args.doc.now.src.now (omega arith) ∙ near-timed c.args.doc.now.src.now c.args.doc.now.tape.now c.args.p c.args.around.now (rw c.view-v.ensures at c.if-v-eq2.true))

pub returns : goal.returns
returns c = near-bare c.args.doc.now.src.now c.args.doc.now.tape.now c.args.p c.args.around.now (rw c.view-v.ensures at c.if-v-eq2.false)
