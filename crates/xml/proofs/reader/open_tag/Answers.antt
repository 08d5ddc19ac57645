-- `xml::reader::open_tag` meets its contract: a law for each answer of the scanner (Turns). Assumes nothing.
use mathlib.Core.Path.{ap, subst, ◌∙◌}
use Rattle.std.specs.Prelude.{Ok}
use Prim.Native.Nat.{◌+◌}
use native.Mathlib.Omega.{arith}
use lib.ListN.{drop}
use Rattle.xml.specs.Tokens.{StartRead}
use Rattle.xml.proofs.Steps.{top-le}
use Rattle.xml.proofs.Turns.{open-bad, bad-in, opens_in, lone-in, timed-in, opens-good, lone-good, timed-good}
use Rattle.xml.proofs.reader.open_tag.Goals as goal

pub overflow_add-result : goal.overflow_add-result
overflow_add-result c = omega (arith, bad-in c.requires c.in-Err.k (subst (StartRead c.args.archive (drop (c.args.from.at + 1) c.args.src.now)) c.in-Err.is c.start_tag.ensures), c.requires.reading.short)

pub head-requires : goal.head-requires
head-requires c = omega (arith, opens_in c.requires c.in-Ok-Opens.n (subst (StartRead c.args.archive (drop (c.args.from.at + 1) c.args.src.now)) (c.in-Ok-Opens.is ∙ ap Ok c.in-Ok-Opens.field-0-is) c.start_tag.ensures), c.requires.reading.short)

pub node-requires : goal.node-requires
node-requires c = omega (arith, top-le c.requires.reading c.requires.here, c.requires.reading.few, c.requires.reading.short, c.requires.here)

pub head-requires-in-Ok-Lone : goal.head-requires-in-Ok-Lone
head-requires-in-Ok-Lone c = omega (arith, lone-in c.requires c.in-Ok-Lone.n (subst (StartRead c.args.archive (drop (c.args.from.at + 1) c.args.src.now)) (c.in-Ok-Lone.is ∙ ap Ok c.in-Ok-Lone.field-0-is) c.start_tag.ensures), c.requires.reading.short)

pub head-requires-in-Ok-Timed : goal.head-requires-in-Ok-Timed
head-requires-in-Ok-Timed c = omega (arith, timed-in c.requires c.in-Ok-Timed.n (subst (StartRead c.args.archive (drop (c.args.from.at + 1) c.args.src.now)) (c.in-Ok-Timed.is ∙ ap Ok c.in-Ok-Timed.field-0-is) c.start_tag.ensures), c.requires.reading.short)

pub node-requires-in-Ok-Timed : goal.node-requires-in-Ok-Timed
node-requires-in-Ok-Timed c = omega (arith, top-le c.requires.reading c.requires.here, c.requires.reading.few, c.requires.reading.short, c.requires.here)

pub returns-in-Err : goal.returns-in-Err
returns-in-Err c = open-bad c.requires c.in-Err.k (subst (StartRead c.args.archive (drop (c.args.from.at + 1) c.args.src.now)) c.in-Err.is c.start_tag.ensures)

pub returns-in-Ok-Opens : goal.returns-in-Ok-Opens
returns-in-Ok-Opens c = opens-good c.requires c.in-Ok-Opens.n (subst (StartRead c.args.archive (drop (c.args.from.at + 1) c.args.src.now)) (c.in-Ok-Opens.is ∙ ap Ok c.in-Ok-Opens.field-0-is) c.start_tag.ensures) c.head.ensures c.node.ensures

pub returns-in-Ok-Lone : goal.returns-in-Ok-Lone
returns-in-Ok-Lone c = lone-good c.requires c.in-Ok-Lone.n (subst (StartRead c.args.archive (drop (c.args.from.at + 1) c.args.src.now)) (c.in-Ok-Lone.is ∙ ap Ok c.in-Ok-Lone.field-0-is) c.start_tag.ensures) c.head-in-Ok-Lone.ensures c.node-in-Ok-Lone.ensures

pub returns-in-Ok-Timed : goal.returns-in-Ok-Timed
returns-in-Ok-Timed c = timed-good c.requires c.in-Ok-Timed.n (subst (StartRead c.args.archive (drop (c.args.from.at + 1) c.args.src.now)) (c.in-Ok-Timed.is ∙ ap Ok c.in-Ok-Timed.field-0-is) c.start_tag.ensures) c.head-in-Ok-Timed.ensures c.node-in-Ok-Timed.ensures
