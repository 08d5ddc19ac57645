-- `xml::tag::put_quoted` meets its contract, for each byte that is an entity, and any other. Assumes nothing.
use Rattle.xml.specs.Bytes.{bytes}
use Rattle.xml.specs.TagWritten.{value-amp, value-lt, value-quot, value-one}
use Rattle.xml.proofs.tag.put_quoted.Goals as goal

pub returns-then-b-eq38 : goal.returns-then-b-eq38
unfolding bytes
returns-then-b-eq38 c = rw (value-amp c.args.b c.if-b-eq38.true) c.put_word.ensures

pub returns-then-b-eq60 : goal.returns-then-b-eq60
unfolding bytes
returns-then-b-eq60 c = rw (value-lt c.args.b c.if-b-eq60.true) c.put_word-then-b-eq60.ensures

pub returns-then-b-eq34 : goal.returns-then-b-eq34
unfolding bytes
returns-then-b-eq34 c = rw (value-quot c.args.b c.if-b-eq34.true) c.put_word-then-b-eq34.ensures

pub returns : goal.returns
returns c = rw (value-one c.args.b c.if-b-eq38.false c.if-b-eq60.false c.if-b-eq34.false) c.put.ensures
