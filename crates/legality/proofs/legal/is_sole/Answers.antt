-- `is_sole` meets its contract.
use mathlib.Core.Path.{sym}
use Rattle.versions.specs.LegalTimes.{sole_none, sole-other, sole-one}
use Rattle.legality.proofs.legal.is_sole.Goals as goal

-- src/legal.rt:82:9
pub returns-then-hi-lo : goal.returns-then-hi-lo
returns-then-hi-lo c s f t = sym (sole_none t c.if-hi-lo.true)

-- src/legal.rt:84:9
pub view_at-v-requires : goal.view_at-v-requires
view_at-v-requires c = c.requires c.if-hi-lo.false

-- src/legal.rt:86:9
pub returns-then-v-ne1 : goal.returns-then-v-ne1
returns-then-v-ne1 c s f t = sym (sole-other t (rw c.view_at-v.ensures at c.if-v-ne1.true))

-- src/legal.rt:77:1
pub returns : goal.returns
returns c s f t = rw c.view_at-v.ensures (sym (sole-one t c.if-hi-lo.false (rw c.view_at-v.ensures at c.if-v-ne1.false)))
