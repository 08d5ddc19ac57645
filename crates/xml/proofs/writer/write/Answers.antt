-- `xml::writer::write` meets its contract: the content at the output's start. Assumes nothing.
use native.Mathlib.Omega.{arith}
use Rattle.xml.specs.WriteLaws.{valid-fit}
use Rattle.xml.specs.OverLaws.{wrote-over}
use Rattle.xml.proofs.writer.write.Goals as goal

pub write_content-requires : goal.write_content-requires
write_content-requires c = valid-fit c.requires.0 c.requires.1 (omega arith)

pub returns : goal.returns
returns c f h = wrote-over (c.write_content.ensures f h)
