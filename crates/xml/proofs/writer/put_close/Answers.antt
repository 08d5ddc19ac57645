-- `xml::writer::put_close` meets its contract: three pieces, one after the other, or one. Assumes nothing.
use Rattle.xml.specs.Bytes.{bytes}
use Rattle.xml.specs.OverLaws.{wrote_then}
use Rattle.xml.specs.TapeLaws.{closing}
use Rattle.xml.proofs.writer.put_close.Goals as goal

pub returns-then-element : goal.returns-then-element
unfolding closing bytes
returns-then-element c = rw c.if-element.true (wrote_then (wrote_then c.put_word-inner.ensures c.put_word-last.ensures) c.put_word.ensures)

pub returns : goal.returns
unfolding closing bytes
returns c = rw c.if-element.false c.put_word-2.ensures
