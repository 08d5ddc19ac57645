-- `xml::writer::put_escaped` meets its contract, for each byte that is an entity, and any other. Assumes nothing.
use Rattle.xml.specs.Bytes.{bytes}
use Rattle.xml.specs.SignLaws.{escape-amp, escape-lt, escape-gt, escape-one}
use Rattle.xml.proofs.writer.put_escaped.Goals as goal

pub returns-then-b-eq38 : goal.returns-then-b-eq38
unfolding bytes
returns-then-b-eq38 c = rw (escape-amp c.args.b c.if-b-eq38.true) c.put_word.ensures

pub returns-then-b-eq60 : goal.returns-then-b-eq60
unfolding bytes
returns-then-b-eq60 c = rw (escape-lt c.args.b c.if-b-eq60.true) c.put_word-then-b-eq60.ensures

pub returns-then-b-eq62 : goal.returns-then-b-eq62
unfolding bytes
returns-then-b-eq62 c = rw (escape-gt c.args.b c.if-b-eq62.true) c.put_word-then-b-eq62.ensures

pub returns : goal.returns
returns c = rw (escape-one c.args.b (record { no-amp = c.if-b-eq38.false; no_lt = c.if-b-eq60.false; no-gt = c.if-b-eq62.false })) c.put.ensures
