-- `xml::text::plain_end` meets its contract: what the blocks pass over is written as it stands. Assumes nothing.
use Rattle.xml.specs.Stretch.{plain-stopped, stopped-after}
use Rattle.xml.proofs.text.plain_end.Goals as goal

pub returns : goal.returns
returns c = plain-stopped c.requires.1 (stopped-after c.pass_blocks-j.ensures c.pass_bytes.ensures)
