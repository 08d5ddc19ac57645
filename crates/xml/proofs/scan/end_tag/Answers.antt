-- `xml::scan::end_tag` meets its contract: the name is T, or a part of the text. Assumes nothing.
use lib.ListN.{drop}
use lib.Seq.{slice}
use Rattle.xml.specs.Bytes.{Bytes, bytes}
use Rattle.xml.specs.Tokens.{EndNamed, end-times, end-element}
use Rattle.xml.proofs.Tags.{part-is}
use mathlib.Core.Path.{subst}
use Rattle.xml.proofs.scan.end_tag.Goals as goal

pub returns-then-kind-eq2 : goal.returns-then-kind-eq2
unfolding bytes
returns-then-kind-eq2 c = end-times (drop c.args.at c.args.src.now) (slice c.args.start c.args.end c.args.src.now) c.end_name.result c.args.kind c.if-kind-eq2.true c.end_name.ensures

pub returns : goal.returns
returns c = end-element (drop c.args.at c.args.src.now) (slice c.args.start c.args.end c.args.src.now) c.end_name-2.result c.args.kind c.if-kind-eq2.false (subst (λ (w : Bytes). EndNamed w (drop c.args.at c.args.src.now) c.end_name-2.result) (part-is c.args.start c.args.end c.args.src.now c.requires.1) c.end_name-2.ensures)
