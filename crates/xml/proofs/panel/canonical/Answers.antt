-- `xml::panel::canonical` meets its contract: a law for each answer (CanonicalLaws). Assumes nothing.
use mathlib.Core.Path.{ap, ◌∙◌}
use lib.ListN.{replicate}
use Rattle.xml.specs.CanonicalLaws.{answer-long, answer-narrow, answer-read}
use Rattle.xml.proofs.panel.canonical.Goals as goal

pub returns-then-src-gt16384 : goal.returns-then-src-gt16384
returns-then-src-gt16384 c = answer-long c.args.src.now c.args.tape.now c.args.out.now c.if-src-gt16384.true

pub returns-then-tape-src : goal.returns-then-tape-src
returns-then-tape-src c = answer-narrow c.args.src.now c.args.tape.now c.args.out.now c.if-src-gt16384.false c.if-tape-src.true

pub returns : goal.returns
returns c = answer-read c.args.src.now c.args.tape.now c.args.out.now c.if-src-gt16384.false _ _ _ c.if-tape-src.false c.read_form-answer.ensures (c.clear.ensures ∙ ap (λ n. replicate n 0) c.read_form-answer.auto.tape)
