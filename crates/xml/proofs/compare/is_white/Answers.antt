-- `xml::compare::is_white` meets its contract: what the run means is white where its raw bytes from i on are. Assumes nothing.
use native.Mathlib.Omega.{arith}
use mathlib.Core.Path.{◌≡◌, ap, sym, ◌∙◌}
use lib.ListN.{length}
use lib.Seq.{take-length}
use Rattle.xml.specs.Bytes.{all, is_white}
use Rattle.xml.specs.CompareLaws.{white-meant, white-more, white-other, white-over}
use Rattle.xml.proofs.compare.is_white.Goals as goal

pub loop-i-init : goal.loop-i-init
loop-i-init c = (omega arith, white-meant _ ∙ ap (all is_white) (sym (take-length c.args.run.now)))

pub returns-then-not-is_white_byte : goal.returns-then-not-is_white_byte
returns-then-not-is_white_byte c = let s = c.args.run.now in
    sym (c.loop-i.invariant.1 ∙ white-other s c.loop-i.i (length s) (omega arith) (omega arith) (sym c.is_white_byte.ensures ∙ c.if-not-is_white_byte.true))

pub loop-i-preserved : goal.loop-i-preserved
loop-i-preserved c = let s = c.args.run.now in
    (omega arith, c.loop-i.invariant.1 ∙ white-more s c.loop-i.i (length s) (omega arith) (omega arith) (sym c.is_white_byte.ensures ∙ c.if-not-is_white_byte.false))

pub returns : goal.returns
returns c = let s = c.args.run.now in
    let done : c.loop-i.i ≡ length s = omega arith in
    sym (c.loop-i.invariant.1 ∙ rw done (white-over s (length s)))
