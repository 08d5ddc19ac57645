-- The bytes, then the one after them.
use native.Mathlib.Omega.{arith}
use Rattle.std.proofs.lemmas.Slice.{between_is}
use mathlib.Core.Path.{sym, ◌∙◌}
use borrow.Author.Tests.{eq-eqb}
use Rattle.keys.proofs.ContextLaws.{whole-short, whole-other, whole-ended, whole-on}
use Rattle.keys.proofs.contexts.stand_whole.Goals as goal

pub returns-then-text-at : goal.returns-then-text-at
returns-then-text-at c = sym (whole-short c.args.text.now c.args.at c.args.a c.args.e c.requires.2 c.if-text-at.true)

pub returns-then-not-same_long : goal.returns-then-not-same_long
returns-then-not-same_long c = sym (whole-other c.args.text.now c.args.at c.args.a c.args.e c.requires.2 (sym (simp between_is at c.same_long.ensures) ∙ c.if-not-same_long.true))

pub returns-then-next-eq44 : goal.returns-then-next-eq44
returns-then-next-eq44 c = eq-eqb _ 44 c.if-next-eq44.true ∙ sym (whole-ended c.args.text.now c.args.at c.args.a c.args.e c.requires.2 (omega arith) (sym (simp between_is at c.same_long.ensures) ∙ c.if-not-same_long.false) c.if-next-eq44.true)

pub returns-else-next-eq44 : goal.returns-else-next-eq44
returns-else-next-eq44 c = sym (whole-on c.args.text.now c.args.at c.args.a c.args.e c.requires.2 (omega arith) (sym (simp between_is at c.same_long.ensures) ∙ c.if-not-same_long.false) c.if-next-eq44.false)
