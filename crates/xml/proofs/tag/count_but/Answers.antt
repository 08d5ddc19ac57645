-- `xml::tag::count_but` meets its contract: n attributes of other names stand before the place i. Assumes nothing.
use Rattle.std.proofs.lemmas.Slice.{between_is}
use mathlib.Core.Path.{refl, sym, ◌∙◌, subst}
use native.Mathlib.Omega.{arith}
use Rattle.xml.specs.Bytes.{bytes}
use Rattle.xml.specs.Tags.{parts}
use Rattle.xml.specs.TagPlaces.{PartIn, part_in}
use Rattle.xml.specs.TagSums.{summed-start, summed-next, summed-end, sum-others, one-not, one-so}
use Rattle.xml.proofs.tag.count_but.Goals.{then-not-is_byte, else-not-is_byte}
use Rattle.xml.proofs.tag.count_but.Goals as goal

pub loop-i-init : goal.loop-i-init
loop-i-init c = summed-start c.requires.0 c.name_end-i.ensures (omega arith) (omega (arith, sum-others (bytes "t") (parts 0 c.args.s.now)))

pub part_at-p-requires : goal.part_at-p-requires
part_at-p-requires c = (c.requires.1, c.loop-i-test.true)

pub overflow_add-i : goal.overflow_add-i
overflow_add-i c = omega (arith, c.loop-i-test.true, c.requires.1)

pub slice_bounds-is_byte-count : goal.slice_bounds-is_byte-count
slice_bounds-is_byte-count c =
    let here : PartIn c.args.s.now c.loop-i.i c.part_at-p.result = subst (λ g. PartIn c.args.s.now c.loop-i.i g) (sym c.part_at-p.ensures) (part_in c.loop-i.invariant.reached c.loop-i-test.true) in
    let p = here in omega (arith, p.named)

pub slice_bounds-is_byte-start : goal.slice_bounds-is_byte-start
slice_bounds-is_byte-start c =
    let here : PartIn c.args.s.now c.loop-i.i c.part_at-p.result = subst (λ g. PartIn c.args.s.now c.loop-i.i g) (sym c.part_at-p.ensures) (part_in c.loop-i.invariant.reached c.loop-i-test.true) in
    let p = here in omega (arith, p.named)

pub slice_bounds-is_byte-end : goal.slice_bounds-is_byte-end
slice_bounds-is_byte-end c =
    let here : PartIn c.args.s.now c.loop-i.i c.part_at-p.result = subst (λ g. PartIn c.args.s.now c.loop-i.i g) (sym c.part_at-p.ensures) (part_in c.loop-i.invariant.reached c.loop-i-test.true) in
    let p = here in omega (arith, p.valued, p.inside)

pub overflow_add-n : goal.overflow_add-n
overflow_add-n c = omega (arith, c.loop-i.invariant.small, c.loop-i-test.true, c.requires.1)

pub overflow_add-i-in-loop-i : goal.overflow_add-i-in-loop-i
overflow_add-i-in-loop-i c =
    let here : PartIn c.args.s.now c.loop-i.i c.part_at-p.result = subst (λ g. PartIn c.args.s.now c.loop-i.i g) (sym c.part_at-p.ensures) (part_in c.loop-i.invariant.reached c.loop-i-test.true) in
    omega (arith, here.inside, c.requires.1)

pub loop-i-smaller : goal.loop-i-smaller
loop-i-smaller c =
    let here : PartIn c.args.s.now c.loop-i.i c.part_at-p.result = subst (λ g. PartIn c.args.s.now c.loop-i.i g) (sym c.part_at-p.ensures) (part_in c.loop-i.invariant.reached c.loop-i-test.true) in
    let p = here in omega (arith, p.named, p.valued, p.inside)

pub loop-i-preserved : goal.loop-i-preserved
unfolding bytes
loop-i-preserved c =
    let here : PartIn c.args.s.now c.loop-i.i c.part_at-p.result = subst (λ g. PartIn c.args.s.now c.loop-i.i g) (sym c.part_at-p.ensures) (part_in c.loop-i.invariant.reached c.loop-i-test.true) in
    let p = here in
    let a = c.args in
    elim c.if-not-is_byte.branch [
      | then-not-is_byte w ↦ summed-next 1 c.loop-i.invariant p (one-not a.s.now c.loop-i.i c.part_at-p.result 116 (sym (simp between_is at c.is_byte.ensures) ∙ w.if-not-is_byte.true)) (omega (arith, p.named, p.valued)) refl w.n-is
      | else-not-is_byte w ↦ summed-next 0 c.loop-i.invariant p (one-so a.s.now c.loop-i.i c.part_at-p.result 116 (sym (simp between_is at c.is_byte.ensures) ∙ w.if-not-is_byte.false)) (omega (arith, p.named, p.valued)) refl (omega (arith, w.n-is))
    ]

pub returns : goal.returns
returns c = summed-end c.loop-i.invariant (omega arith)
