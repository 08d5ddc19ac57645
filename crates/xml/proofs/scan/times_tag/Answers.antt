-- `xml::scan::times_tag` meets its contract: a law for each return (Tags). Assumes nothing.
use native.Mathlib.Omega.{arith}
use Rattle.xml.specs.Bytes.{bytes}
use Rattle.xml.proofs.Tags.{word_in, word-off, times-in, shut-in, times-open-here, times-shut-here}
use Rattle.xml.proofs.scan.times_tag.Goals as goal

pub overflow_add-result : goal.overflow_add-result
unfolding bytes
overflow_add-result c = omega (arith, word_in c.args.src.now c.args.at c.requires c.same-m.ensures)

pub returns-then-m-ne4 : goal.returns-then-m-ne4
unfolding bytes
returns-then-m-ne4 c = word-off c.args.src.now c.args.at c.requires c.same-m.ensures c.if-m-ne4.true

pub times_len-n-requires : goal.times_len-n-requires
unfolding bytes
times_len-n-requires c = omega (arith, word_in c.args.src.now c.args.at c.requires c.same-m.ensures)

pub overflow_add-at-3 : goal.overflow_add-at-3
unfolding bytes
overflow_add-at-3 c = omega (arith, times-in c.args.src.now c.args.at c.requires c.same-m.ensures c.if-m-ne4.false c.times_len-n.ensures)

pub same-e-requires : goal.same-e-requires
unfolding bytes
same-e-requires c = times-in c.args.src.now c.args.at c.requires c.same-m.ensures c.if-m-ne4.false c.times_len-n.ensures

pub overflow_add-result-then-e-ne2 : goal.overflow_add-result-then-e-ne2
unfolding bytes
overflow_add-result-then-e-ne2 c = omega (arith, times-in c.args.src.now c.args.at c.requires c.same-m.ensures c.if-m-ne4.false c.times_len-n.ensures)

pub overflow_add-result-then-e-ne2-2 : goal.overflow_add-result-then-e-ne2-2
unfolding bytes
overflow_add-result-then-e-ne2-2 c = omega (arith, shut-in c.args.src.now c.args.at c.requires c.same-m.ensures c.if-m-ne4.false c.times_len-n.ensures c.same-e.ensures)

pub returns-then-e-ne2 : goal.returns-then-e-ne2
unfolding bytes
returns-then-e-ne2 c = times-open-here c.args.src.now c.args.at c.requires c.same-m.ensures c.if-m-ne4.false c.times_len-n.ensures c.same-e.ensures c.if-e-ne2.true

pub returns : goal.returns
unfolding bytes
returns c = times-shut-here c.args.src.now c.args.at c.requires c.same-m.ensures c.if-m-ne4.false c.times_len-n.ensures c.same-e.ensures c.if-e-ne2.false
