-- `accept` meets its contract: a law for each answer (Reception).
use Rattle.archive.specs.Reception.{walked, sent-6, sent-7, sent-8, sent-9, received, arrange-fit, arranged-done, arranged-double}
use native.Mathlib.Omega.{arith}
use Rattle.archive.proofs.received.accept.Goals as goal

pub too_large-requires : goal.too_large-requires
too_large-requires c = walked c.requires.0 c.requires.1

pub returns-then-too_large : goal.returns-then-too_large
returns-then-too_large c = sent-6 c.requires.1 c.too_large.ensures c.if-too_large.true

pub is_misplaced-requires : goal.is_misplaced-requires
is_misplaced-requires c = walked c.requires.0 c.requires.1

pub returns-then-is_misplaced : goal.returns-then-is_misplaced
returns-then-is_misplaced c = sent-7 c.requires.1 c.too_large.ensures c.if-too_large.false c.is_misplaced.ensures c.if-is_misplaced.true

pub is_unkeyed-requires : goal.is_unkeyed-requires
is_unkeyed-requires c = walked c.requires.0 c.requires.1

pub returns-then-is_unkeyed : goal.returns-then-is_unkeyed
returns-then-is_unkeyed c = sent-8 c.requires.1 c.too_large.ensures c.if-too_large.false c.is_misplaced.ensures c.if-is_misplaced.false c.is_unkeyed.ensures c.if-is_unkeyed.true

pub arrange-requires : goal.arrange-requires
arrange-requires c = (arrange-fit c.requires.1 c.too_large.ensures c.if-too_large.false c.is_misplaced.ensures c.if-is_misplaced.false c.is_unkeyed.ensures c.if-is_unkeyed.false c.requires.0, c.requires.2, omega (arith, c.requires.1.few))

pub returns-in-Some : goal.returns-in-Some
returns-in-Some c = received c.requires.1 c.too_large.ensures c.if-too_large.false c.is_misplaced.ensures c.if-is_misplaced.false c.is_unkeyed.ensures c.if-is_unkeyed.false (arranged-done _ c.in-Some.is c.arrange.ensures)

pub returns-in-None : goal.returns-in-None
returns-in-None c = sent-9 c.requires.1 c.too_large.ensures c.if-too_large.false c.is_misplaced.ensures c.if-is_misplaced.false c.is_unkeyed.ensures c.if-is_unkeyed.false (arranged-double _ c.in-None.is c.arrange.ensures)
