-- `xml::tag::tag_len` meets its contract: n bytes are written of what stands before the place i. Assumes nothing.
use Rattle.std.proofs.lemmas.List.{length-take}
use Rattle.std.proofs.lemmas.Slice.{between_is}
use Prim.Native.Nat.{ℕ, ◌+◌, ◌-◌}
use mathlib.Core.Path.{refl, sym, subst}
use native.Mathlib.Omega.{arith}
use Rattle.xml.specs.TagPlaces.{PartIn, part_in}
use Rattle.xml.specs.TagSums.{summed-start, summed-next, summed-end, tag-long, part-written, part_room}
use Rattle.xml.proofs.tag.tag_len.Goals as goal

pub loop-i-init : goal.loop-i-init
loop-i-init c = summed-start c.requires.0 c.name_end-i.ensures (omega arith) (omega (arith, tag-long c.args.s.now, c.name_end-i.ensures))

pub part_at-p-requires : goal.part_at-p-requires
part_at-p-requires c = (c.requires.1, c.loop-i-test.true)

pub overflow_sub-n : goal.overflow_sub-n
overflow_sub-n c =
    let here : PartIn c.args.s.now c.loop-i.i c.part_at-p.result = subst (λ g. PartIn c.args.s.now c.loop-i.i g) (sym c.part_at-p.ensures) (part_in c.loop-i.invariant.reached c.loop-i-test.true) in
    omega (arith, here.named)

pub overflow_add-n : goal.overflow_add-n
overflow_add-n c =
    let here : PartIn c.args.s.now c.loop-i.i c.part_at-p.result = subst (λ g. PartIn c.args.s.now c.loop-i.i g) (sym c.part_at-p.ensures) (part_in c.loop-i.invariant.reached c.loop-i-test.true) in
    let p = here in omega (arith, p.valued, p.inside, c.requires.1)

pub overflow_add-p : goal.overflow_add-p
overflow_add-p c =
    let here : PartIn c.args.s.now c.loop-i.i c.part_at-p.result = subst (λ g. PartIn c.args.s.now c.loop-i.i g) (sym c.part_at-p.ensures) (part_in c.loop-i.invariant.reached c.loop-i-test.true) in
    let p = here in omega (arith, p.valued, p.inside, c.requires.1)

pub value_len-requires : goal.value_len-requires
value_len-requires c =
    let here : PartIn c.args.s.now c.loop-i.i c.part_at-p.result = subst (λ g. PartIn c.args.s.now c.loop-i.i g) (sym c.part_at-p.ensures) (part_in c.loop-i.invariant.reached c.loop-i-test.true) in
    let p = here in omega (arith, length-take {A = ℕ}, p.inside, c.requires.1)

pub overflow_add-n-in-loop-i : goal.overflow_add-n-in-loop-i
overflow_add-n-in-loop-i c =
    let here : PartIn c.args.s.now c.loop-i.i c.part_at-p.result = subst (λ g. PartIn c.args.s.now c.loop-i.i g) (sym c.part_at-p.ensures) (part_in c.loop-i.invariant.reached c.loop-i-test.true) in
    let p = here in omega (arith, part_room p (simp between_is at c.value_len.ensures), p.inside, c.requires.1)

pub overflow_add-n-in-loop-i-2 : goal.overflow_add-n-in-loop-i-2
overflow_add-n-in-loop-i-2 c =
    let here : PartIn c.args.s.now c.loop-i.i c.part_at-p.result = subst (λ g. PartIn c.args.s.now c.loop-i.i g) (sym c.part_at-p.ensures) (part_in c.loop-i.invariant.reached c.loop-i-test.true) in
    let p = here in omega (arith, part_room p (simp between_is at c.value_len.ensures), p.inside, c.loop-i.invariant.small, c.loop-i-test.true, c.requires.1)

pub overflow_add-i : goal.overflow_add-i
overflow_add-i c =
    let here : PartIn c.args.s.now c.loop-i.i c.part_at-p.result = subst (λ g. PartIn c.args.s.now c.loop-i.i g) (sym c.part_at-p.ensures) (part_in c.loop-i.invariant.reached c.loop-i-test.true) in
    omega (arith, here.inside, c.requires.1)

pub slice_bounds-value_len-count : goal.slice_bounds-value_len-count
slice_bounds-value_len-count c =
    let here : PartIn c.args.s.now c.loop-i.i c.part_at-p.result = subst (λ g. PartIn c.args.s.now c.loop-i.i g) (sym c.part_at-p.ensures) (part_in c.loop-i.invariant.reached c.loop-i-test.true) in
    let p = here in omega (arith, p.valued)

pub slice_bounds-value_len-start : goal.slice_bounds-value_len-start
slice_bounds-value_len-start c =
    let here : PartIn c.args.s.now c.loop-i.i c.part_at-p.result = subst (λ g. PartIn c.args.s.now c.loop-i.i g) (sym c.part_at-p.ensures) (part_in c.loop-i.invariant.reached c.loop-i-test.true) in
    let p = here in omega (arith, p.valued)

pub slice_bounds-value_len-end : goal.slice_bounds-value_len-end
slice_bounds-value_len-end c =
    let here : PartIn c.args.s.now c.loop-i.i c.part_at-p.result = subst (λ g. PartIn c.args.s.now c.loop-i.i g) (sym c.part_at-p.ensures) (part_in c.loop-i.invariant.reached c.loop-i-test.true) in
    let p = here in omega (arith, p.inside)

pub loop-i-smaller : goal.loop-i-smaller
loop-i-smaller c =
    let here : PartIn c.args.s.now c.loop-i.i c.part_at-p.result = subst (λ g. PartIn c.args.s.now c.loop-i.i g) (sym c.part_at-p.ensures) (part_in c.loop-i.invariant.reached c.loop-i-test.true) in
    let p = here in omega (arith, p.named, p.valued, p.inside)

pub loop-i-preserved : goal.loop-i-preserved
loop-i-preserved c =
    let here : PartIn c.args.s.now c.loop-i.i c.part_at-p.result = subst (λ g. PartIn c.args.s.now c.loop-i.i g) (sym c.part_at-p.ensures) (part_in c.loop-i.invariant.reached c.loop-i-test.true) in
    let p = here in summed-next (c.part_at-p.result.equals - c.loop-i.i + 3 + c.value_len.result) c.loop-i.invariant p (part-written p (simp between_is at c.value_len.ensures)) (part_room p (simp between_is at c.value_len.ensures)) refl refl

pub returns : goal.returns
returns c = summed-end c.loop-i.invariant (omega arith)
