use Rattle.marks.specs.Lent.{blanks}
use borrow.Author.Tests.{eq-eqb, ne_eqb}
use Rattle.marks.proofs.entries.blank.Goals as goal

pub returns-then-n-eq32 : goal.returns-then-n-eq32
unfolding blanks
returns-then-n-eq32 c = simp (eq-eqb _ 32 c.if-n-eq32.true)

pub returns-else-n-eq32 : goal.returns-else-n-eq32
unfolding blanks
returns-else-n-eq32 c = simp (ne_eqb _ 32 c.if-n-eq32.false)
