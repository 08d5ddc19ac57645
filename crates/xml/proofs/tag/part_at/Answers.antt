-- `xml::tag::part_at` meets its contract: `=` and the closing quote are found byte by byte. Assumes nothing.
use Rattle.xml.specs.TagPlaces.{part-is}
use Rattle.xml.proofs.tag.part_at.Goals as goal

pub returns : goal.returns
returns c = part-is c.args.s.now c.args.i c.until_byte.result c.byte_at-quote.result c.until_byte-2.result c.until_byte.ensures.0 c.byte_at-quote.ensures c.until_byte-2.ensures.0
