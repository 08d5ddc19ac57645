-- `xml::reader::characters` meets its contract: a law for each answer of the scanner (Turns). Assumes nothing.
use mathlib.Core.Path.{sym, ◌∙◌}
use native.Mathlib.Omega.{arith}
use Rattle.xml.proofs.Turns.{stop-in, run-bad, run_small, run-good}
use Rattle.xml.proofs.reader.characters.Goals as goal

pub overflow_add-result : goal.overflow_add-result
overflow_add-result c = omega (arith, stop-in c.requires c.in-Err.k (sym c.in-Err.is ∙ c.text_run.ensures), c.requires.reading.short)

pub head-requires : goal.head-requires
head-requires c = let g = run_small c.requires c.in-Ok.k (sym c.in-Ok.is ∙ c.text_run.ensures) in
    omega (arith, c.requires.reading.short, g.0, g.1, g.2)

pub returns-in-Err : goal.returns-in-Err
returns-in-Err c = run-bad c.requires c.in-Err.k (sym c.in-Err.is ∙ c.text_run.ensures)

pub returns-in-Ok : goal.returns-in-Ok
returns-in-Ok c = run-good c.requires c.in-Ok.k (sym c.in-Ok.is ∙ c.text_run.ensures) c.head.ensures c.node.ensures
