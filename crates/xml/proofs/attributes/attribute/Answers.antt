-- `xml::attributes::attribute` meets its contract. Assumes nothing.
use Prim.Native.Nat.{ℕ, ◌+◌}
use native.Mathlib.Omega.{arith}
use mathlib.Core.Path.{ap, sym, ◌∙◌}
use lib.ListN.{take, drop, get_or}
use Rattle.xml.specs.Tags.{is_new}
use Rattle.xml.specs.AttrPlaces.{attr_named, named_other, part_same, part-begins, name_in_lem}
use Rattle.xml.proofs.attributes.attribute.Goals as goal

pub returns-then-src-at-ne32 : goal.returns-then-src-at-ne32
returns-then-src-at-ne32 c = λ used h. sym (named_other used (drop (c.args.at + 1) c.args.src.now) (get_or c.args.src.now c.args.at 0) c.if-src-at-ne32.true)

pub overflow_add-to : goal.overflow_add-to
overflow_add-to c = omega (arith, name_in_lem c.args.src.now (c.args.at + 1) c.name_len-m.result (omega (arith, c.requires.2)) c.name_len-m.ensures)

pub slice_bounds-is_new-end : goal.slice_bounds-is_new-end
slice_bounds-is_new-end c = name_in_lem c.args.src.now (c.args.at + 1) c.name_len-m.result (omega (arith, c.requires.2)) c.name_len-m.ensures

pub is_new-requires : goal.is_new-requires
is_new-requires c = (c.requires.0, c.requires.1, part-begins (drop (c.args.at + 1) c.args.src.now) (c.args.at + 1) c.name_len-m.result c.name_len-m.ensures)

pub first_wrong-requires : goal.first_wrong-requires
first_wrong-requires c = let S = drop (c.args.at + 1) c.args.src.now in (
  c.requires.0,
  c.requires.1,
  omega (arith, c.requires.2),
  λ used h. ap (λ (i : ℕ). is_new used (take i S)) (sym c.name_len-m.ensures) ∙ ap (is_new used) (sym (part_same S (c.args.at + 1) c.name_len-m.result))
      ∙ sym (c.is_new.ensures used h) ∙ c.if-not-is_new.true,
)

pub returns-then-not-is_new : goal.returns-then-not-is_new
returns-then-not-is_new c = λ used h. c.first_wrong.ensures used h ∙ ap (λ (b : ℕ). attr_named used b (drop (c.args.at + 1) c.args.src.now)) (sym c.if-src-at-ne32.false)

pub returns : goal.returns
returns c = let S = drop (c.args.at + 1) c.args.src.now in
    λ used h.
    c.after_name.ensures used (ap (is_new used) (sym (part_same S (c.args.at + 1) c.name_len-m.result)) ∙ sym (c.is_new.ensures used h) ∙ c.if-not-is_new.false)
    ∙ ap (λ (b : ℕ). attr_named used b S) (sym c.if-src-at-ne32.false)
