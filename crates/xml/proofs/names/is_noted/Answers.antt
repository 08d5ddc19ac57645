-- `xml::names::is_noted` meets its contract: a name that is noted is the first that does not come before it. Assumes nothing.
use Prim.Native.Nat.{◌+◌, ◌/◌, ◌%◌}
use mathlib.Core.Path.{ap, sym, ◌∙◌}
use native.Mathlib.Omega.{arith}
use lib.ListN.{get_or}
use Rattle.xml.specs.Bytes.{Bytes, same}
use Rattle.xml.specs.NameCellLaws.{not_noted, noted-as}
use Rattle.xml.proofs.Tags.{part-is}
use Rattle.xml.proofs.names.is_noted.Goals as goal

pub returns-then-i-k : goal.returns-then-i-k
returns-then-i-k c = λ used n. sym (not_noted n c.names_before-i.ensures c.if-i-k.true)

pub overflow_cast-start : goal.overflow_cast-start
overflow_cast-start c = omega (arith, c.shared_slice_known-4-1.given (c.args.base + c.names_before-i.result))

pub overflow_add-end : goal.overflow_add-end
overflow_add-end c = omega (arith, c.shared_slice_known-4-1.given (c.args.base + c.names_before-i.result))

pub slice_bounds-same_bytes-end : goal.slice_bounds-same_bytes-end
slice_bounds-same_bytes-end c = (c.requires.names.in-text c.names_before-i.result (omega (arith, c.names_before-i.ensures.high, c.if-i-k.false))).within

pub returns : goal.returns
returns c = λ used n.
    let a = c.args in
    let cell = get_or a.cells.now (a.base + c.names_before-i.result) 0 in
    c.same_bytes.ensures ∙ ap (λ (x : Bytes). same x a.name.now) (part-is (cell / 64) (cell / 64 + cell % 64) a.src.now (omega arith))
    ∙ noted-as n c.names_before-i.ensures (omega (arith, c.names_before-i.ensures.high, c.if-i-k.false))
