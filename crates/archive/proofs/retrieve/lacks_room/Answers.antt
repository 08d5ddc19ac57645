-- `lacks_room` meets its contract: a version has no byte more than the archive, and what `write_version` answers of an empty output is the length.
use native.Mathlib.Omega.{arith}
use mathlib.Core.Path.{sym, ap}
use lib.Dec.{ltb}
use lib.ListN.{length}
use borrow.Author.Tests.{le-ltb}
use Rattle.xml.specs.OverLaws.{wrote-over}
use Rattle.versions.specs.VersionText.{version_text}
use Rattle.archive.specs.RetrieveLaws.{version-asks, version-short}
use Rattle.archive.proofs.retrieve.lacks_room.Goals as goal

pub returns-then-doc-size : goal.returns-then-doc-size
returns-then-doc-size c = λ f h. let a = c.args in sym (le-ltb a.size (length (version_text a.i f)) (omega (arith, version-short c.requires f h, c.if-doc-size.true)))

pub write_version-count-requires : goal.write_version-count-requires
write_version-count-requires c = version-asks c.requires

pub returns : goal.returns
returns c = λ f h. ap (ltb c.args.size) (wrote-over (c.write_version-count.ensures f h)).0
