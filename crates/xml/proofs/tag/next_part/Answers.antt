-- `xml::tag::next_part` meets its contract: of the attributes before the place i, the nearest stands at `best`. Assumes nothing.
use mathlib.Core.Path.{refl, sym, subst}
use native.Mathlib.Omega.{arith}
use Rattle.xml.specs.TagPlaces.{PartIn, part_in}
use Rattle.xml.specs.NextPart.{seeking-start, seeking-next, seeking-end}
use Rattle.xml.proofs.tag.next_part.Goals as goal

pub name_end-i-requires : goal.name_end-i-requires
name_end-i-requires c = (c.requires.0, c.requires.1)

pub loop-i-init : goal.loop-i-init
loop-i-init c = seeking-start c.requires.0 c.name_end-i.ensures

pub part_at-p-requires : goal.part_at-p-requires
part_at-p-requires c = (c.requires.1, c.loop-i-test.true)

pub nearer-best-requires : goal.nearer-best-requires
nearer-best-requires c =
    let here : PartIn c.args.s.now c.loop-i.i c.part_at-p.result = subst (λ g. PartIn c.args.s.now c.loop-i.i g) (sym c.part_at-p.ensures) (part_in c.loop-i.invariant.reached c.loop-i-test.true) in
    let p = here in
    (c.requires.1, c.loop-i.invariant.nearest.inside, record { le₁ = c.requires.2; in₁ = c.requires.3; le₂ = omega (arith, p.named); in₂ = omega (arith, p.valued, p.inside) })

pub overflow_add-i : goal.overflow_add-i
overflow_add-i c =
    let here : PartIn c.args.s.now c.loop-i.i c.part_at-p.result = subst (λ g. PartIn c.args.s.now c.loop-i.i g) (sym c.part_at-p.ensures) (part_in c.loop-i.invariant.reached c.loop-i-test.true) in
    omega (arith, here.inside, c.requires.1)

pub loop-i-smaller : goal.loop-i-smaller
loop-i-smaller c =
    let here : PartIn c.args.s.now c.loop-i.i c.part_at-p.result = subst (λ g. PartIn c.args.s.now c.loop-i.i g) (sym c.part_at-p.ensures) (part_in c.loop-i.invariant.reached c.loop-i-test.true) in
    let p = here in omega (arith, p.named, p.valued, p.inside)

pub loop-i-preserved : goal.loop-i-preserved
loop-i-preserved c =
    let here : PartIn c.args.s.now c.loop-i.i c.part_at-p.result = subst (λ g. PartIn c.args.s.now c.loop-i.i g) (sym c.part_at-p.ensures) (part_in c.loop-i.invariant.reached c.loop-i-test.true) in
    seeking-next c.loop-i.invariant c.loop-i-test.true here c.part_at-p.ensures c.nearer-best.ensures refl

pub returns : goal.returns
returns c = seeking-end c.requires.0 c.loop-i.invariant (omega arith)
