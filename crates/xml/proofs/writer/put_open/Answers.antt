-- `xml::writer::put_open` meets its contract: three pieces, one after the other. Assumes nothing.
use Rattle.xml.specs.Bytes.{bytes}
use Rattle.xml.specs.OverLaws.{wrote_then}
use Rattle.xml.specs.TapeLaws.{opening}
use Rattle.xml.proofs.writer.put_open.Goals as goal

pub returns-then-element : goal.returns-then-element
unfolding opening bytes
returns-then-element c = rw c.if-element.true (wrote_then (wrote_then c.put_word-inner.ensures c.put_word-last.ensures) c.put_word.ensures)

pub returns : goal.returns
unfolding opening bytes
returns c = rw c.if-element.false (wrote_then (wrote_then c.put_word-times.ensures c.put_word-last-2.ensures) c.put_word-2.ensures)
