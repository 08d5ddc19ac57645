-- `xml::text::line_end` meets its contract: by the byte after the CR, if it is of the run. Assumes nothing.
use Prim.Native.Nat.{ℕ, ◌+◌}
use mathlib.Core.Path.{sym, ◌∙◌, ap}
use lib.Seq.{length-take-le}
use Rattle.xml.specs.SignLaws.{return-joined, return-turned}
use Rattle.xml.specs.declared.text.Sign.{Sign}
use Rattle.xml.proofs.text.line_end.Goals as goal

pub slice_bounds-byte_at-end : goal.slice_bounds-byte_at-end
slice_bounds-byte_at-end c = let a = c.args in sym (length-take-le a.e a.src.now c.requires.1)

pub returns-then-b-ne10 : goal.returns-then-b-ne10
returns-then-b-ne10 c = let a = c.args in sym (return-turned a.i a.e a.src.now (λ x. c.if-b-ne10.true (c.byte_at-b.ensures ∙ x)))

pub returns : goal.returns
returns c = let a = c.args in
    let s : ℕ → Sign = λ b. record { byte = b; next = a.i + 2 } in
    ap s c.if-b-ne10.false ∙ sym (return-joined a.i a.e a.src.now (sym c.byte_at-b.ensures ∙ c.if-b-ne10.false))
