-- `xml::stretch::has_other` meets its contract. The invariant: where there was no hit, each byte passed is of the sort. Assumes nothing.
use native.Mathlib.Omega.{arith}
use Rattle.xml.specs.Stretch.{each_none, each_part, no_hit}
use Rattle.xml.proofs.stretch.has_other.Goals as goal

pub loop-i-init : goal.loop-i-init
loop-i-init g c = (omega arith, λ h. each_none (omega arith))

pub loop-i-preserved : goal.loop-i-preserved
loop-i-preserved g c = (omega arith, no_hit c.loop-i.hit c.is_other-hit.result c.loop-i.invariant.1 c.is_other-hit.ensures (omega arith))

pub returns : goal.returns
returns g c = λ h. each_part (c.loop-i.invariant.1 h) (omega arith) (omega arith)
