-- `xml::tag::same_attrs` meets its contract: the attributes passed mean the same (TagSame). Assumes nothing.
use Prim.Native.Nat.{◌<◌}
use mathlib.Core.Path.{sym, ◌∙◌, subst}
use native.Mathlib.Omega.{arith}
use lib.ListN.{length}
use Rattle.xml.specs.TagPlaces.{PartIn, part_in}
use Rattle.xml.specs.TagWritten.{sorted-less}
use Rattle.xml.specs.TagSame.{comparing-start, comparing-short, comparing-other, comparing-next, comparing-end}
use Rattle.xml.proofs.tag.same_attrs.Goals as goal

pub next_part-i-requires : goal.next_part-i-requires
next_part-i-requires c = (c.requires.0, c.requires.1, omega arith, omega arith)

pub next_part-j-requires : goal.next_part-j-requires
next_part-j-requires c = (c.requires.2, c.requires.3, omega arith, omega arith)

pub loop-i-init : goal.loop-i-init
loop-i-init c = comparing-start c.requires.0 c.requires.2 c.next_part-i.ensures c.next_part-j.ensures

pub returns-then-s2-j : goal.returns-then-s2-j
returns-then-s2-j c = sym (comparing-short c.loop-i.invariant c.loop-i-test.true c.if-s2-j.true)

pub part_at-p-requires : goal.part_at-p-requires
part_at-p-requires c = (c.requires.1, c.loop-i-test.true)

pub part_at-q-requires : goal.part_at-q-requires
part_at-q-requires c =
    let other : c.loop-i.j < length c.args.s2.now = omega (arith, c.if-s2-j.false) in
    (c.requires.3, other)

pub same_parts-requires : goal.same_parts-requires
same_parts-requires c =
    let left : PartIn c.args.s1.now c.loop-i.i c.part_at-p.result = subst (λ g. PartIn c.args.s1.now c.loop-i.i g) (sym c.part_at-p.ensures) (part_in c.loop-i.invariant.reached₁ c.loop-i-test.true) in
    let other : c.loop-i.j < length c.args.s2.now = omega (arith, c.if-s2-j.false) in
    let right : PartIn c.args.s2.now c.loop-i.j c.part_at-q.result = subst (λ g. PartIn c.args.s2.now c.loop-i.j g) (sym c.part_at-q.ensures) (part_in c.loop-i.invariant.reached₂ (other)) in
    (left, right)

pub returns-then-not-same_parts : goal.returns-then-not-same_parts
returns-then-not-same_parts c =
    let other : c.loop-i.j < length c.args.s2.now = omega (arith, c.if-s2-j.false) in
    sym (comparing-other c.loop-i.invariant c.loop-i-test.true other c.part_at-p.ensures c.part_at-q.ensures (sym c.same_parts.ensures ∙ c.if-not-same_parts.true))

pub overflow_add-i : goal.overflow_add-i
overflow_add-i c = omega (arith, c.loop-i-test.true, c.requires.1)

pub next_part-i-requires-in-loop-i : goal.next_part-i-requires-in-loop-i
next_part-i-requires-in-loop-i c =
    let left : PartIn c.args.s1.now c.loop-i.i c.part_at-p.result = subst (λ g. PartIn c.args.s1.now c.loop-i.i g) (sym c.part_at-p.ensures) (part_in c.loop-i.invariant.reached₁ c.loop-i-test.true) in
    let p = left in (c.requires.0, c.requires.1, omega (arith, p.named), omega (arith, p.valued, p.inside))

pub overflow_add-j : goal.overflow_add-j
overflow_add-j c =
    let other : c.loop-i.j < length c.args.s2.now = omega (arith, c.if-s2-j.false) in
    omega (arith, other, c.requires.3)

pub next_part-j-requires-in-loop-i : goal.next_part-j-requires-in-loop-i
next_part-j-requires-in-loop-i c =
    let other : c.loop-i.j < length c.args.s2.now = omega (arith, c.if-s2-j.false) in
    let right : PartIn c.args.s2.now c.loop-i.j c.part_at-q.result = subst (λ g. PartIn c.args.s2.now c.loop-i.j g) (sym c.part_at-q.ensures) (part_in c.loop-i.invariant.reached₂ (other)) in
    let p = right in (c.requires.2, c.requires.3, omega (arith, p.named), omega (arith, p.valued, p.inside))

pub loop-i-smaller : goal.loop-i-smaller
loop-i-smaller c = sorted-less c.loop-i-test.true c.part_at-p.ensures c.next_part-i-in-loop-i.ensures

pub loop-i-preserved : goal.loop-i-preserved
loop-i-preserved c =
    let other : c.loop-i.j < length c.args.s2.now = omega (arith, c.if-s2-j.false) in
    comparing-next c.loop-i.invariant c.loop-i-test.true other c.part_at-p.ensures c.part_at-q.ensures (sym c.same_parts.ensures ∙ c.if-not-same_parts.false) c.next_part-i-in-loop-i.ensures c.next_part-j-in-loop-i.ensures

pub returns : goal.returns
returns c = comparing-end c.loop-i.invariant (omega arith)
