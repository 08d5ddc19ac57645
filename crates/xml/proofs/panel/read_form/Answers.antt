-- `xml::panel::read_form` meets its contract: a law for each answer (CanonicalLaws). Assumes nothing.
use mathlib.Core.Path.{subst}
use mathlib.Core.Bool.{false}
use native.Mathlib.Omega.{arith}
use Rattle.std.proofs.lemmas.Result.{err_from_is_err_and}
use Rattle.xml.specs.State.{Replied}
use Rattle.xml.specs.CanonicalLaws.{read-refused, read_whole, filled-few}
use Rattle.xml.proofs.panel.read_form.Goals as goal

pub form-requires : goal.form-requires
form-requires c = filled-few (subst (Replied false c.args.src.now c.args.tape.now c.read.new.tape) c.in_ok-n.was c.read.ensures) c.requires.0

pub returns-in_err-n : goal.returns-in_err-n
returns-in_err-n c = let p = err_from_is_err_and c.from_residual.result c.from_residual.ensures.1 in rw (p.1, p.2) (read-refused c.args.src.now c.args.out.now c.read.new.tape c.in_err-n.field-0.0 (subst (Replied false c.args.src.now c.args.tape.now c.read.new.tape) c.in_err-n.was c.read.ensures) (omega (arith, c.requires.1, c.read.auto)))

pub returns : goal.returns
returns c = let g = subst (Replied false c.args.src.now c.args.tape.now c.read.new.tape) c.in_ok-n.was c.read.ensures in
    read_whole c.args.src.now c.args.out.now g.forest _ _ g.is (c.form.ensures g.forest g.tape)
