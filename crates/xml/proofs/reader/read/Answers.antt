-- `xml::reader::read` meets its contract. The invariant: from what is held, reading goes on to the text's answer (Reading), and the cells
-- after it are as they were. Assumes nothing.
use mathlib.Core.Path.{refl, ◌∙◌, subst}
use native.Mathlib.Omega.{arith}
use Rattle.std.proofs.lemmas.Result.{err_from_is_err_and}
use Rattle.xml.specs.State.{Stepped}
use Rattle.xml.proofs.Closes.{begin, end-inside, end_none, end-done}
use Rattle.xml.proofs.reader.read.Goals.{then-here-ne0-via-then-here-ne0, then-here-ne0-via-else-here-ne0+then-here-eq0}
use Rattle.xml.proofs.reader.read.Goals as goal

pub loop-here-init : goal.loop-here-init
loop-here-init c = (refl, begin c.requires, λ i h. refl)

pub advance-requires : goal.advance-requires
advance-requires c = record { reading = c.loop-here.invariant.1; here = c.loop-here-test.true }

pub returns-in_err-here : goal.returns-in_err-here
returns-in_err-here c = let p = err_from_is_err_and c.from_residual.result c.from_residual.ensures.1 in rw (p.1, p.2) (subst (Stepped c.args.archive c.args.src.now c.loop-here.tape c.loop-here.here.at c.loop-here.here.count c.advance.new.tape) c.in_err-here.was c.advance.ensures)

pub loop-here-smaller : goal.loop-here-smaller
loop-here-smaller c = let g = subst (Stepped c.args.archive c.args.src.now c.loop-here.tape c.loop-here.here.at c.loop-here.here.count c.advance.new.tape) c.in_ok-here.was c.advance.ensures in
    omega (arith, g.later, g.reading.within)

pub loop-here-preserved : goal.loop-here-preserved
loop-here-preserved c = let g = subst (Stepped c.args.archive c.args.src.now c.loop-here.tape c.loop-here.here.at c.loop-here.here.count c.advance.new.tape) c.in_ok-here.was c.advance.ensures in
    (c.advance.auto.tape ∙ c.loop-here.invariant.0, g.reading, λ i h. g.untouched i h ∙ c.loop-here.invariant.2 i (omega (arith, g.more, h)))

pub returns-then-here-ne0 : goal.returns-then-here-ne0
returns-then-here-ne0 c =
    elim c.then-here-ne0.branch [
      | then-here-ne0-via-then-here-ne0 w ↦ end-inside c.loop-here.invariant.1 c.loop-here-test.false w.if-here-ne0.true
      | then-here-ne0-via-else-here-ne0+then-here-eq0 w ↦ end_none c.loop-here.invariant.1 c.loop-here-test.false w.if-here-ne0.false w.if-here-eq0.true
    ]

pub returns : goal.returns
returns c = end-done c.loop-here.invariant.1 c.loop-here-test.false c.if-here-ne0.false c.args.tape.now c.if-here-eq0.false c.loop-here.invariant.2
