use native.Mathlib.Omega.{arith}
use mathlib.Core.Path.{refl}
use Rattle.marks.specs.Lent.{blanks}
use Rattle.marks.specs.BytesLaws.{read_next, read-end, read_short}
use Rattle.marks.proofs.bytes.table_from.Goals as goal

pub returns-then-s-ne608 : goal.returns-then-s-ne608
returns-then-s-ne608 c = read_short c.args.s.now c.no_table.result c.if-s-ne608.true c.no_table.ensures

pub loop-i-init : goal.loop-i-init
unfolding blanks
loop-i-init c = refl

pub loop-i-preserved : goal.loop-i-preserved
loop-i-preserved c = read_next c.args.s.now c.if-s-ne608.false c.loop-i.held c.entry_at.result c.loop-i.i (omega arith) c.loop-i.invariant c.entry_at.ensures

pub returns : goal.returns
returns c = read-end c.args.s.now c.if-s-ne608.false c.loop-i.held c.loop-i.i (omega arith) (omega arith) c.loop-i.invariant
