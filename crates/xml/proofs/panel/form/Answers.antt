-- `xml::panel::form` meets its contract, by what `write` ensures of an empty output and of the lent one. Assumes nothing.
use Rattle.xml.specs.CanonicalLaws.{form-short, form-done}
use Rattle.xml.proofs.panel.form.Goals as goal

pub returns-then-out-count : goal.returns-then-out-count
returns-then-out-count c f h = form-short f c.args.out.now c.write-count.result (c.write-count.ensures f h).0 c.if-out-count.true

pub returns : goal.returns
returns c f h = form-done f c.args.out.now c.write-count.result (c.write-count.ensures f h).0 c.if-out-count.false _ (c.write.ensures f h).1
