-- `lacks_room` meets its contract: a first archive has at most 16,397 bytes, and what `write_first` answers of an empty output is the length.
use native.Mathlib.Omega.{arith}
use mathlib.Core.Path.{sym, ap}
use lib.Dec.{ltb}
use lib.ListN.{length}
use borrow.Author.Tests.{le-ltb}
use Rattle.xml.specs.Forest.{write}
use Rattle.xml.specs.OverLaws.{wrote-over}
use Rattle.archive.specs.Founding.{first_text}
use Rattle.archive.specs.FoundLaws.{first_short}
use Rattle.archive.proofs.found.lacks_room.Goals as goal

pub returns-then-size-ge16397 : goal.returns-then-size-ge16397
returns-then-size-ge16397 c = λ f h. sym (le-ltb c.args.size (length (first_text (write f))) (omega (arith, first_short c.requires f h, c.if-size-ge16397.true)))

pub returns : goal.returns
returns c = λ f h. ap (ltb c.args.size) (wrote-over (c.write_first-count.ensures f h)).0
