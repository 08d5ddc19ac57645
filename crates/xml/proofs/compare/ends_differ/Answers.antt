-- `xml::compare::ends_differ` meets its contract: a law of the last bytes (Ends). Assumes nothing.
use mathlib.Core.Path.{sym, ap₂, ◌∙◌}
use lib.ListN.{length}
use lib.Seq.{take-length}
use Rattle.xml.specs.Bytes.{Bytes, same}
use Rattle.xml.specs.Read.{unescape}
use native.Mathlib.Omega.{arith}
use borrow.Author.Tests.{eqb-false, not-true}
use Rattle.xml.specs.Ends.{ends-other}
use Rattle.xml.specs.Truth.{clash}
use Rattle.xml.proofs.compare.ends_differ.Goals as goal

pub returns-then-run1-eq0 : goal.returns-then-run1-eq0
returns-then-run1-eq0 c = λ t. clash (sym t)

pub returns-then-run2-eq0 : goal.returns-then-run2-eq0
returns-then-run2-eq0 c = λ t. clash (sym t)

pub returns-then-b-c : goal.returns-then-b-c
returns-then-b-c c = λ t. clash (sym t)

pub returns-then-b-eq59 : goal.returns-then-b-eq59
returns-then-b-eq59 c = λ t. clash (sym t)

pub returns-then-b-eq13 : goal.returns-then-b-eq13
returns-then-b-eq13 c = λ t. clash (sym t)

pub returns-then-c-eq59 : goal.returns-then-c-eq59
returns-then-c-eq59 c = λ t. clash (sym t)

pub returns : goal.returns
returns c = λ t.
    let a = c.args.run1.now in
    let b = c.args.run2.now in
    ap₂ (λ (x y : Bytes). same (unescape 0 x) (unescape 0 y)) (sym (take-length a)) (sym (take-length b))
    ∙ ends-other a 0 (length a) b 0 (length b) (omega arith) (omega arith) (omega arith) (omega arith) c.if-b-c.false c.if-b-eq59.false c.if-c-eq59.false c.if-b-eq13.false (eqb-false _ _ (not-true _ t))
