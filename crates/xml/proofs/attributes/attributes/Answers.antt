-- `xml::attributes::attributes` meets its contract. The invariant: the attributes from `at` go as far as those from j, and k names of
-- those before it are noted (Noting). Assumes nothing.
use native.Mathlib.Omega.{arith}
use mathlib.Core.Path.{ap, sym, ◌∙◌}
use Rattle.std.specs.Prelude.{Ok}
use Rattle.xml.specs.AttrPlaces.{gone-end, gone-over, gone-off, off-fits, noting-start, noting-some, noting-room, noting-new, noting-fits, noting-on, noting-full}
use Rattle.xml.proofs.attributes.attributes.Goals as goal

pub loop-j-init : goal.loop-j-init
loop-j-init c = noting-start c.requires.0 c.requires.2

pub attribute-requires : goal.attribute-requires
attribute-requires c = (noting-some c.loop-j.invariant, c.requires.1, c.loop-j-test.true)

pub returns-in-Ok-None : goal.returns-in-Ok-None
returns-in-Ok-None c = let w = c.loop-j.invariant in (w.below, gone-over w.gone c.loop-j-test.true (sym (c.attribute.ensures w.used w.names) ∙ c.in-Ok-None.is ∙ ap Ok c.in-Ok-None.field-0-is))

pub overflow_add-result : goal.overflow_add-result
overflow_add-result c = let w = c.loop-j.invariant in
    omega (arith, w.gone.few, off-fits w.gone c.loop-j-test.true c.in-Err.n (sym (c.attribute.ensures w.used w.names) ∙ c.in-Err.is), c.requires.1)

pub returns-in-Err : goal.returns-in-Err
returns-in-Err c = let w = c.loop-j.invariant in
    (w.below, gone-off w.gone c.loop-j-test.true c.in-Err.n (sym (c.attribute.ensures w.used w.names) ∙ c.in-Err.is))

pub returns-then-base-k : goal.returns-then-base-k
returns-then-base-k c = (c.loop-j.invariant.below, noting-full c.loop-j.invariant c.loop-j-test.true c.in-Ok-Some.n c.in-Ok-Some.m (λ used h. sym (c.in-Ok-Some.is ∙ ap Ok c.in-Ok-Some.field-0-is) ∙ c.attribute.ensures used h) c.if-base-k.true)

pub note-requires : goal.note-requires
note-requires c = let f = noting-fits c.loop-j.invariant c.loop-j-test.true c.in-Ok-Some.n c.in-Ok-Some.m (λ used h. sym (c.in-Ok-Some.is ∙ ap Ok c.in-Ok-Some.field-0-is) ∙ c.attribute.ensures used h) in
    (noting-some c.loop-j.invariant, omega (arith, noting-room c.loop-j.invariant, c.if-base-k.false), f.1, f.2, c.requires.1, noting-new c.loop-j.invariant c.loop-j-test.true c.in-Ok-Some.n c.in-Ok-Some.m (λ used h. sym (c.in-Ok-Some.is ∙ ap Ok c.in-Ok-Some.field-0-is) ∙ c.attribute.ensures used h))

pub overflow_add-j-in-Ok-Some-2 : goal.overflow_add-j-in-Ok-Some-2
overflow_add-j-in-Ok-Some-2 c = omega (arith, noting-fits c.loop-j.invariant c.loop-j-test.true c.in-Ok-Some.n c.in-Ok-Some.m (λ used h. sym (c.in-Ok-Some.is ∙ ap Ok c.in-Ok-Some.field-0-is) ∙ c.attribute.ensures used h), c.requires.1)

pub loop-j-smaller : goal.loop-j-smaller
loop-j-smaller c = omega (arith, noting-fits c.loop-j.invariant c.loop-j-test.true c.in-Ok-Some.n c.in-Ok-Some.m (λ used h. sym (c.in-Ok-Some.is ∙ ap Ok c.in-Ok-Some.field-0-is) ∙ c.attribute.ensures used h))

pub loop-j-preserved : goal.loop-j-preserved
loop-j-preserved c = noting-on c.loop-j.invariant c.loop-j-test.true c.in-Ok-Some.n c.in-Ok-Some.m (λ used h. sym (c.in-Ok-Some.is ∙ ap Ok c.in-Ok-Some.field-0-is) ∙ c.attribute.ensures used h) c.note.ensures.0 c.note.ensures.1

pub returns : goal.returns
returns c = let w = c.loop-j.invariant in (w.below, gone-end w.gone (omega (arith, c.loop-j-test.false)))
