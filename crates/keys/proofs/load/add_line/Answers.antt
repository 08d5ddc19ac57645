-- Each test that fails shows a broken rule; where none does, the table has one more line.
use Rattle.std.proofs.lemmas.Slice.{between_is}
use native.Mathlib.Omega.{arith}
use mathlib.Core.Path.{sym, ◌∙◌, subst}
use mathlib.Core.Bool.{Bool}
use lib.Seq.{length-take-le}
use Rattle.keys.specs.Loading.{Decides, Small}
use Rattle.keys.proofs.LineParts.{keys-row, name-bounds}
use Rattle.keys.proofs.AddLine.{too_many, no_line, not_new, has-T, not-small, context-placed, few-counted, line-room, line-added}
use Rattle.keys.proofs.load.add_line.Goals as goal

pub returns-then-lines-eq64 : goal.returns-then-lines-eq64
returns-then-lines-eq64 c = too_many c.requires c.if-lines-eq64.true

pub returns-then-not-is_line : goal.returns-then-not-is_line
returns-then-not-is_line c = no_line c.requires (sym c.is_line.ensures ∙ c.if-not-is_line.true)

pub slice_bounds-before-end : goal.slice_bounds-before-end
slice_bounds-before-end c = sym (length-take-le c.args.at c.args.text.now c.requires.built.upto.within)

pub child-requires : goal.child-requires
child-requires c = context-placed c.requires

pub returns-then-child-ne129 : goal.returns-then-child-ne129
returns-then-child-ne129 c = not_new c.requires (simp between_is at c.child.ensures) c.if-child-ne129.true

pub has_t-requires : goal.has_t-requires
has_t-requires c = ((name-bounds c.requires.line).0, (name-bounds c.requires.line).1, record { names = c.requires.line.key.key_names; row = keys-row c.requires.line })

pub returns-then-has_t : goal.returns-then-has_t
returns-then-has_t c = has-T c.requires (λ ns r. sym c.if-has_t.true ∙ c.has_t.ensures ns r)

pub row_len-keys-requires : goal.row_len-keys-requires
row_len-keys-requires c = record { names = c.requires.line.key.key_names; row = keys-row c.requires.line }

pub is_small-requires : goal.is_small-requires
is_small-requires c = few-counted c.requires c.row_len-keys.ensures

pub returns-then-not-is_small : goal.returns-then-not-is_small
returns-then-not-is_small c = not-small c.requires c.row_len-keys.ensures (subst (λ (b : Bool). Decides b (Small c.args.here.depth c.row_len-keys.result c.args.n)) c.if-not-is_small.true c.is_small.ensures)

pub put_line-requires : goal.put_line-requires
put_line-requires c = line-room c.requires (sym c.is_line.ensures ∙ c.if-not-is_line.false) (simp between_is at c.child.ensures) c.if-child-ne129.false (λ ns r. sym c.if-has_t.false ∙ c.has_t.ensures ns r) c.row_len-keys.ensures (subst (λ (b : Bool). Decides b (Small c.args.here.depth c.row_len-keys.result c.args.n)) c.if-not-is_small.false c.is_small.ensures)

pub overflow_add-result : goal.overflow_add-result
overflow_add-result c = omega (arith, c.requires.built.table.few)

pub overflow_add-result-2 : goal.overflow_add-result-2
overflow_add-result-2 c = omega (arith, c.requires.built.table.few, few-counted c.requires c.row_len-keys.ensures)

pub returns : goal.returns
returns c = line-added c.requires (sym c.is_line.ensures ∙ c.if-not-is_line.false) (simp between_is at c.child.ensures) c.if-child-ne129.false (λ ns r. sym c.if-has_t.false ∙ c.has_t.ensures ns r) c.row_len-keys.ensures (subst (λ (b : Bool). Decides b (Small c.args.here.depth c.row_len-keys.result c.args.n)) c.if-not-is_small.false c.is_small.ensures) c.if-lines-eq64.false c.put_line.ensures
