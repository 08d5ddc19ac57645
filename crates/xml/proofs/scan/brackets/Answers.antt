-- `xml::scan::brackets` meets its contract: a law for each case. Assumes nothing.
use mathlib.Core.Path.{sym}
use Rattle.xml.specs.Stretch.{brackets-off, brackets-stay}
use Rattle.xml.proofs.scan.brackets.Goals as goal

pub returns-then-from-to : goal.returns-then-from-to
returns-then-from-to c = sym (brackets-off c.args.q c.args.from c.args.to c.if-from-to.true)

pub returns-else-from-to : goal.returns-else-from-to
returns-else-from-to c = sym (brackets-stay c.args.q c.args.from c.args.to c.if-from-to.false)
