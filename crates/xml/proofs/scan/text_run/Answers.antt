-- `xml::scan::text_run` meets its contract. The invariant: the run from `at` is the run from j, after q times `]`. Assumes nothing.
use mathlib.Core.Path.{ap, sym, ◌∙◌}
use Rattle.std.specs.Prelude.{Ok}
use native.Mathlib.Omega.{arith}
use Rattle.xml.proofs.TextRuns.{run-start, run_end, run-over, run-off, run_on, off-fits, on_fits}
use Rattle.xml.proofs.scan.text_run.Goals as goal

pub loop-j-init : goal.loop-j-init
loop-j-init c = run-start c.plain_run-j.ensures

pub text_byte-requires : goal.text_byte-requires
text_byte-requires c = let w = c.loop-j.invariant in omega arith

pub returns-in-Ok-None : goal.returns-in-Ok-None
returns-in-Ok-None c = let w = c.loop-j.invariant in sym (run-over w (omega arith) (sym c.text_byte.ensures ∙ c.in-Ok-None.is ∙ ap Ok c.in-Ok-None.field-0-is))

pub overflow_add-result : goal.overflow_add-result
overflow_add-result c = let w = c.loop-j.invariant in
    omega (arith, off-fits w (omega arith) c.in-Err.k (sym c.text_byte.ensures ∙ c.in-Err.is))

pub returns-in-Err : goal.returns-in-Err
returns-in-Err c = sym (run-off c.loop-j.invariant (omega arith) c.in-Err.k (sym c.text_byte.ensures ∙ c.in-Err.is))

pub overflow_add-from-in-Ok-Some : goal.overflow_add-from-in-Ok-Some
overflow_add-from-in-Ok-Some c = omega (arith, on_fits c.loop-j.invariant (omega arith) c.in-Ok-Some.k c.in-Ok-Some.r (sym c.text_byte.ensures ∙ c.in-Ok-Some.is ∙ ap Ok c.in-Ok-Some.field-0-is))

pub plain_run-j-requires-in-Ok-Some : goal.plain_run-j-requires-in-Ok-Some
plain_run-j-requires-in-Ok-Some c = omega (arith, on_fits c.loop-j.invariant (omega arith) c.in-Ok-Some.k c.in-Ok-Some.r (sym c.text_byte.ensures ∙ c.in-Ok-Some.is ∙ ap Ok c.in-Ok-Some.field-0-is))

pub loop-j-preserved : goal.loop-j-preserved
loop-j-preserved c = run_on c.loop-j.invariant (omega arith) c.in-Ok-Some.k c.in-Ok-Some.r c.plain_run-j-in-Ok-Some.result c.brackets-q.result (sym c.text_byte.ensures ∙ c.in-Ok-Some.is ∙ ap Ok c.in-Ok-Some.field-0-is) c.plain_run-j-in-Ok-Some.ensures c.brackets-q.ensures

pub returns : goal.returns
returns c = let w = c.loop-j.invariant in sym (run_end w (omega arith))
