-- `xml::writer::write_at` meets its contract: there is room for the place after the content. Assumes nothing.
use Rattle.xml.specs.WriteLaws.{valid-fit}
use Rattle.xml.proofs.writer.write_at.Goals as goal

pub write_content-requires : goal.write_content-requires
write_content-requires c = valid-fit c.requires.0 c.requires.1 c.requires.2
