-- `xml::scan::end_name` meets its contract: a law for each return (Tags). Assumes nothing.
use Rattle.xml.proofs.Tags.{end-off-here, end-open-here, end-shut-here}
use Rattle.xml.proofs.scan.end_name.Goals.{else-m-name-via-then-m-name+else-byte_at-eq62, else-m-name-via-else-m-name}
use Rattle.xml.proofs.scan.end_name.Goals as goal

pub returns-then-byte_at-eq62 : goal.returns-then-byte_at-eq62
returns-then-byte_at-eq62 c = end-shut-here c.args.name.now c.args.src.now c.args.at c.requires c.same-m.ensures c.byte_at.ensures c.if-m-name.true c.if-byte_at-eq62.true

pub returns : goal.returns
returns c =
    elim c.else-m-name.branch [
      | else-m-name-via-then-m-name+else-byte_at-eq62 w ↦
          end-open-here c.args.name.now c.args.src.now c.args.at c.requires c.same-m.ensures w.byte_at.ensures w.if-m-name.true w.if-byte_at-eq62.false
      | else-m-name-via-else-m-name w ↦ end-off-here c.args.name.now c.args.src.now c.args.at c.requires c.same-m.ensures w.if-m-name.false
    ]
