-- `xml::compare::same_long` meets its contract: after the blocks that are alike the rest tells. Assumes nothing.
use native.Mathlib.Omega.{arith}
use mathlib.Core.Path.{sym, ap₂, ◌∙◌}
use native.Mathlib.Nat.{zero-add}
use lib.ListN.{length}
use lib.Seq.{take-length}
use Rattle.xml.specs.Bytes.{same}
use Rattle.xml.specs.CompareLaws.{same-lengths}
use Rattle.xml.specs.Alike.{alike_same}
use Rattle.xml.proofs.Tags.{part-is}
use Rattle.xml.proofs.compare.same_long.Goals as goal

pub returns-then-a-b : goal.returns-then-a-b
returns-then-a-b c = sym (same-lengths c.args.a.now c.args.b.now c.if-a-b.true)

pub returns : goal.returns
returns c = let a = c.args.a.now in
    let b = c.args.b.now in
    let n = c.alike_blocks-n.result in
    let x = c.alike_blocks-n.ensures in
    c.same_bytes.ensures
    ∙ ap₂ same (part-is n (length a) a (omega (arith, x.0))) (part-is n (length b) b (omega (arith, x.0)))
    ∙ sym (rw zero-add at (alike_same a (length a) b (length b) (omega arith) (omega arith) 0 0 n (omega (arith, x.0)) (omega (arith, x.0)) x.1))
    ∙ ap₂ same (take-length a) (take-length b)
