-- `xml::scan::plain_run` meets its contract: its parts pass over plain bytes. Assumes nothing.
use native.Mathlib.Omega.{arith}
use lib.ListN.{length}
use Rattle.xml.specs.Stretch.{passed_none, passed_then, passed_on}
use Rattle.xml.proofs.scan.plain_run.Goals as goal

pub returns-then-src-at-le16 : goal.returns-then-src-at-le16
returns-then-src-at-le16 c = c.pass_bytes.ensures.passed

pub returns-then-j-at : goal.returns-then-j-at
returns-then-j-at c = let p = c.pass_bytes-j.ensures.passed in record { forward = p.forward; inside = omega arith; each = p.each }

pub returns-then-has_other : goal.returns-then-has_other
returns-then-has_other c = passed_on c.pass_bytes-j.ensures.passed c.pass_bytes-then-has_other.ensures.passed

pub returns : goal.returns
returns c = let eight = passed_then {e = length c.args.src.now} (passed_none (omega arith)) (c.has_other.ensures c.if-has_other.false) (omega arith) (omega arith) in
    passed_on c.pass_bytes-j.ensures.passed (passed_on eight (passed_on c.pass_blocks-k.ensures c.pass_bytes-2.ensures.passed))
