-- `xml::class::is_digit_lem` meets its contract. Assumes nothing.
use Prim.Native.Char.{code}
use borrow.Author.Tests.{le-leb, lt-leb}
use Rattle.xml.specs.Bytes.{is_digit, within}
use Rattle.xml.proofs.class.is_digit.Goals as goal

pub returns-then-b-ge48 : goal.returns-then-b-ge48
unfolding is_digit within
returns-then-b-ge48 c = rw (le-leb (code "0") c.args.b c.if-b-ge48.true)

pub returns-else-b-ge48 : goal.returns-else-b-ge48
unfolding is_digit within
returns-else-b-ge48 c = rw (lt-leb (code "0") c.args.b c.if-b-ge48.false)
