-- `xml::tag::named_t` meets its contract: no name up to the place i is `T`. Assumes nothing.
use lib.Seq.{length-take-le}
use Rattle.std.proofs.lemmas.Slice.{between_is}
use mathlib.Core.Path.{ap, refl, sym, ◌∙◌, subst}
use native.Mathlib.Omega.{arith}
use Rattle.xml.specs.Bytes.{bytes, same}
use Rattle.xml.specs.TagPlaces.{PartIn, part_in, tag-start}
use Rattle.xml.specs.TagSums.{name-part, named-first, searched-start, searched-hit, searched-next, searched-none}
use Rattle.xml.proofs.tag.named_t.Goals as goal

pub returns-then-is_byte : goal.returns-then-is_byte
unfolding bytes
returns-then-is_byte c = sym (named-first c.args.s.now (ap (λ x. same x (bytes "T")) (sym (name-part c.args.s.now c.name_end-i.result c.name_end-i.ensures)) ∙ sym c.is_byte.ensures ∙ c.if-is_byte.true))

pub loop-i-init : goal.loop-i-init
unfolding bytes
loop-i-init c = searched-start c.requires.0 (ap (λ x. same x (bytes "T")) (sym (name-part c.args.s.now c.name_end-i.result c.name_end-i.ensures)) ∙ sym c.is_byte.ensures ∙ c.if-is_byte.false) c.name_end-i.ensures

pub part_at-p-requires : goal.part_at-p-requires
part_at-p-requires c = (c.requires.1, c.loop-i-test.true)

pub overflow_add-i : goal.overflow_add-i
overflow_add-i c = omega (arith, c.loop-i-test.true, c.requires.1)

pub returns-then-is_byte-2 : goal.returns-then-is_byte-2
unfolding bytes
returns-then-is_byte-2 c =
    let here : PartIn c.args.s.now c.loop-i.i c.part_at-p.result = subst (λ g. PartIn c.args.s.now c.loop-i.i g) (sym c.part_at-p.ensures) (part_in c.loop-i.invariant.reached c.loop-i-test.true) in
    sym (searched-hit c.loop-i.invariant here (sym (simp between_is at c.is_byte-in-loop-i.ensures) ∙ c.if-is_byte-2.true))

pub overflow_add-i-in-loop-i : goal.overflow_add-i-in-loop-i
overflow_add-i-in-loop-i c =
    let here : PartIn c.args.s.now c.loop-i.i c.part_at-p.result = subst (λ g. PartIn c.args.s.now c.loop-i.i g) (sym c.part_at-p.ensures) (part_in c.loop-i.invariant.reached c.loop-i-test.true) in
    omega (arith, here.inside, c.requires.1)

pub slice_bounds-is_byte-end : goal.slice_bounds-is_byte-end
slice_bounds-is_byte-end c = sym (length-take-le c.name_end-i.result c.args.s.now (omega (arith, (tag-start c.requires.0).inside, c.name_end-i.ensures)))

pub slice_bounds-is_byte-count : goal.slice_bounds-is_byte-count
slice_bounds-is_byte-count c =
    let here : PartIn c.args.s.now c.loop-i.i c.part_at-p.result = subst (λ g. PartIn c.args.s.now c.loop-i.i g) (sym c.part_at-p.ensures) (part_in c.loop-i.invariant.reached c.loop-i-test.true) in
    let p = here in omega (arith, p.named)

pub slice_bounds-is_byte-start : goal.slice_bounds-is_byte-start
slice_bounds-is_byte-start c =
    let here : PartIn c.args.s.now c.loop-i.i c.part_at-p.result = subst (λ g. PartIn c.args.s.now c.loop-i.i g) (sym c.part_at-p.ensures) (part_in c.loop-i.invariant.reached c.loop-i-test.true) in
    let p = here in omega (arith, p.named)

pub slice_bounds-is_byte-end-in-loop-i : goal.slice_bounds-is_byte-end-in-loop-i
slice_bounds-is_byte-end-in-loop-i c =
    let here : PartIn c.args.s.now c.loop-i.i c.part_at-p.result = subst (λ g. PartIn c.args.s.now c.loop-i.i g) (sym c.part_at-p.ensures) (part_in c.loop-i.invariant.reached c.loop-i-test.true) in
    let p = here in omega (arith, p.valued, p.inside)

pub loop-i-smaller : goal.loop-i-smaller
loop-i-smaller c =
    let here : PartIn c.args.s.now c.loop-i.i c.part_at-p.result = subst (λ g. PartIn c.args.s.now c.loop-i.i g) (sym c.part_at-p.ensures) (part_in c.loop-i.invariant.reached c.loop-i-test.true) in
    let p = here in omega (arith, p.named, p.valued, p.inside)

pub loop-i-preserved : goal.loop-i-preserved
unfolding bytes
loop-i-preserved c =
    let here : PartIn c.args.s.now c.loop-i.i c.part_at-p.result = subst (λ g. PartIn c.args.s.now c.loop-i.i g) (sym c.part_at-p.ensures) (part_in c.loop-i.invariant.reached c.loop-i-test.true) in
    searched-next c.loop-i.invariant here (sym (simp between_is at c.is_byte-in-loop-i.ensures) ∙ c.if-is_byte-2.false) refl

pub returns : goal.returns
returns c = sym (searched-none c.loop-i.invariant (omega arith))
