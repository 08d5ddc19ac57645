-- `xml::text::sign_at` meets its contract: the byte itself, or what its entity or line end means. Assumes nothing.
use native.Mathlib.Omega.{arith}
use mathlib.Core.Path.{sym, ◌∙◌}
use lib.Seq.{length-take-le}
use Rattle.xml.specs.SignLaws.{sign-here, sign_line, sign-found, found_inside}
use Rattle.xml.proofs.text.sign_at.Goals as goal
use Rattle.std.specs.Prelude.{Ok}

pub returns-then-b-eq13 : goal.returns-then-b-eq13
returns-then-b-eq13 c = let a = c.args in c.line_end.ensures ∙ sym (sign_line a.src.now a.i a.e c.requires.0 c.requires.1 c.if-b-eq13.true)

pub returns-then-b-ne38 : goal.returns-then-b-ne38
returns-then-b-ne38 c = let a = c.args in sym (sign-here a.src.now a.i a.e c.requires.0 c.requires.1 c.if-b-ne38.true c.if-b-eq13.false)

pub slice_bounds-entity_at-end : goal.slice_bounds-entity_at-end
slice_bounds-entity_at-end c = let a = c.args in sym (length-take-le a.e a.src.now c.requires.1)

pub entity_at-requires : goal.entity_at-requires
entity_at-requires c = let a = c.args in omega (arith, length-take-le a.e a.src.now c.requires.1)

pub overflow_add-result-in-Ok-2 : goal.overflow_add-result-in-Ok-2
overflow_add-result-in-Ok-2 c = let a = c.args in
    omega (arith, found_inside a.src.now a.i a.e c.requires.0 c.requires.1 c.in-Ok.n c.in-Ok.c (sym c.entity_at.ensures ∙ c.in-Ok.is))

pub returns-in-Ok : goal.returns-in-Ok
returns-in-Ok c = let a = c.args in
    sym (sign-found a.src.now a.i a.e c.requires.0 c.requires.1 c.if-b-ne38.false (Ok (c.in-Ok.n, c.in-Ok.c)) (sym c.entity_at.ensures ∙ c.in-Ok.is))

pub returns-in-Err : goal.returns-in-Err
returns-in-Err c = let a = c.args in
    sym (sign-found a.src.now a.i a.e c.requires.0 c.requires.1 c.if-b-ne38.false _ (sym c.entity_at.ensures ∙ c.in-Err.is))
