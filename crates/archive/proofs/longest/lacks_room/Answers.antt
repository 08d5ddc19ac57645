-- `lacks_room` meets its contract: no text of a set has more than 2,591 bytes, and what `put_longest` answers of an empty output is the length.
use native.Mathlib.Omega.{arith}
use mathlib.Core.Path.{sym, ap}
use lib.Dec.{ltb}
use lib.ListN.{length}
use borrow.Author.Tests.{le-ltb}
use Rattle.xml.specs.OverLaws.{wrote-over}
use Rattle.timestamp.specs.Times.{write_times}
use Rattle.timestamp.specs.Longest.{longest}
use Rattle.timestamp.proofs.LongestLaws.{longest-length, times-short}
use Rattle.archive.proofs.longest.lacks_room.Goals as goal

pub returns-then-size-ge2591 : goal.returns-then-size-ge2591
returns-then-size-ge2591 c = let n = c.args.n in
    sym (le-ltb c.args.size (length (write_times (longest n))) (omega (arith, times-short (longest n) (omega (arith, longest-length n, c.requires)), c.if-size-ge2591.true)))

pub returns : goal.returns
returns c = ap (ltb c.args.size) (wrote-over c.put_longest-count.ensures).0
