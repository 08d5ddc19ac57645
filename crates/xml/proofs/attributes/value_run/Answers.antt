-- `xml::attributes::value_run` meets its contract. The invariant: the value from `at` is the value from j. Assumes nothing.
use mathlib.Core.Path.{refl, ap, sym, ◌∙◌}
use Rattle.std.specs.Prelude.{Ok}
use native.Mathlib.Omega.{arith}
use borrow.Author.Rules.{rules}
use Rattle.xml.specs.ValueBytes.{pass-start, pass-over, pass-off, pass_on, pass-end, off-fits, on_fits}
use Rattle.xml.proofs.attributes.value_run.Goals as goal

pub loop-j-init : goal.loop-j-init
loop-j-init c = pass-start refl (search rules)

pub value_byte-requires : goal.value_byte-requires
value_byte-requires c = let w = c.loop-j.invariant in omega arith

pub returns-in-Ok-None : goal.returns-in-Ok-None
returns-in-Ok-None c = sym (pass-over c.loop-j.invariant (omega arith) (sym c.value_byte.ensures ∙ c.in-Ok-None.is ∙ ap Ok c.in-Ok-None.field-0-is))

pub overflow_add-result : goal.overflow_add-result
overflow_add-result c = let w = c.loop-j.invariant in
    omega (arith, w.from, w.to, off-fits w (omega arith) c.in-Err.k (sym c.value_byte.ensures ∙ c.in-Err.is))

pub returns-in-Err : goal.returns-in-Err
returns-in-Err c = sym (pass-off c.loop-j.invariant (omega arith) c.in-Err.k (sym c.value_byte.ensures ∙ c.in-Err.is))

pub overflow_add-j-in-Ok-Some : goal.overflow_add-j-in-Ok-Some
overflow_add-j-in-Ok-Some c = omega (arith, on_fits c.loop-j.invariant (omega arith) c.in-Ok-Some.k c.in-Ok-Some.field-0-0-1 (sym c.value_byte.ensures ∙ c.in-Ok-Some.is ∙ ap Ok c.in-Ok-Some.field-0-is))

pub loop-j-preserved : goal.loop-j-preserved
loop-j-preserved c = pass_on c.loop-j.invariant (omega arith) c.in-Ok-Some.k c.in-Ok-Some.field-0-0-1 _ (sym c.value_byte.ensures ∙ c.in-Ok-Some.is ∙ ap Ok c.in-Ok-Some.field-0-is) refl

pub returns : goal.returns
returns c = let w = c.loop-j.invariant in sym (pass-end w (omega arith))
