-- `xml::scan::times_len` meets its contract: its parts pass over bytes of times, and the last stops at another byte or the end. Assumes nothing.
use native.Mathlib.Omega.{arith}
use Rattle.xml.specs.Stretch.{passed_on, times-within, stopped-after, times-there}
use Rattle.xml.proofs.scan.times_len.Goals as goal

pub returns-then-src-at-le16 : goal.returns-then-src-at-le16
returns-then-src-at-le16 c = times-there c.pass_bytes.ensures

pub returns-then-j-at : goal.returns-then-j-at
returns-then-j-at c = times-there (times-within c.pass_bytes-j.ensures c.if-j-at.true (omega arith))

pub returns : goal.returns
returns c = times-there (stopped-after (passed_on c.pass_bytes-j.ensures.passed c.pass_blocks-k.ensures) c.pass_bytes-2.ensures)
