-- The lines read so far are keys.
use native.Mathlib.Omega.{arith}
use Rattle.keys.specs.LineRead.{read-line, read_none}
use Rattle.keys.proofs.LineScanLaws.{begun-none}
use Rattle.keys.proofs.NotationPass.{pass-goes, pass-fails, pass-ends}
use Rattle.keys.proofs.notation.in_notation_from.Goals as goal

pub loop-at-init : goal.loop-at-init
loop-at-init c = c.requires

pub line_at-requires : goal.line_at-requires
line_at-requires c = (omega arith, begun-none c.args.text.now c.loop-at.at)

pub returns-in_default : goal.returns-in_default
returns-in_default c = pass-fails c.args.text.now c.loop-at.at c.loop-at.invariant.1 c.loop-at-test.true (read_none c.args.text.now c.loop-at.at c.in_default.is c.line_at.ensures)

pub loop-at-smaller : goal.loop-at-smaller
loop-at-smaller c = let l = read-line c.in-Some.is c.line_at.ensures in omega (arith, l.within, l.context-ends, l.name-ends, l.names-end)

pub loop-at-preserved : goal.loop-at-preserved
loop-at-preserved c = (omega arith, pass-goes c.args.text.now c.loop-at.at c.loop-at.invariant.1 _ _ _ (read-line c.in-Some.is c.line_at.ensures))

pub returns : goal.returns
returns c = pass-ends c.args.text.now c.loop-at.at c.loop-at.invariant.1 (omega arith) (λ z. omega arith)
