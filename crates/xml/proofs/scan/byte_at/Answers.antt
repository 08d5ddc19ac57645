-- `xml::scan::byte_at` meets its contract: past the end, `get_or` is 0. Assumes nothing.
use mathlib.Core.Path.{sym}
use lib.ListN.{get_or-eq_default}
use Rattle.xml.proofs.scan.byte_at.Goals as goal

pub returns-else-i-src : goal.returns-else-i-src
returns-else-i-src c = sym (get_or-eq_default c.args.src.now 0 c.if-i-src.false)
