-- `lacks_room` meets its contract: a step back adds no byte, and what `back` answers of an empty output is the length.
use native.Mathlib.Omega.{arith}
use mathlib.Core.Path.{sym, ap}
use lib.Dec.{ltb}
use lib.ListN.{length}
use borrow.Author.Tests.{le-ltb}
use Rattle.xml.specs.OverLaws.{wrote-over}
use Rattle.archive.specs.BackCall.{earlier_text, back-asks, back-short}
use Rattle.archive.proofs.back.lacks_room.Goals as goal

pub returns-then-doc-size : goal.returns-then-doc-size
returns-then-doc-size c = λ f h. let a = c.args in sym (le-ltb a.size (length (earlier_text a.i f)) (omega (arith, back-short c.requires f h, c.if-doc-size.true)))

pub back-count-requires : goal.back-count-requires
back-count-requires c = back-asks c.requires

pub returns : goal.returns
returns c = λ f h. ap (ltb c.args.size) (wrote-over (c.back-count.ensures f h)).0
