-- `xml::stretch::pass_blocks` meets its contract. The invariant: it holds of the place reached. Assumes nothing.
use native.Mathlib.Omega.{arith}
use Rattle.xml.specs.Stretch.{passed_none, passed_then}
use Rattle.xml.proofs.stretch.pass_blocks.Goals as goal

pub loop-j-init : goal.loop-j-init
loop-j-init g c = passed_none (omega arith)

pub loop-j-preserved : goal.loop-j-preserved
loop-j-preserved g c = passed_then c.loop-j.invariant (c.has_other.ensures c.if-has_other.false) (omega arith) (omega (arith, c.loop-j.invariant.inside))
