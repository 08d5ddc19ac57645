-- `xml::tag::put_tag` meets its contract: of the attributes by ascending names, those from the place i on are left. Assumes nothing.
use Prim.Native.Nat.{◌+◌, ◌^◌, ◌<◌}
use mathlib.Core.Path.{ap, sym, ◌∙◌, subst}
use native.Mathlib.Omega.{arith}
use lib.ListN.{length}
use lib.Seq.{length-slice, length-take-le}
use Rattle.xml.specs.Tags.{attr_text}
use Rattle.xml.specs.OverLaws.{length_at, wrote_then}
use Rattle.xml.specs.WriteLaws.{left-done}
use Rattle.xml.specs.TagPlaces.{PartIn, part_in, tag-start}
use Rattle.xml.specs.TagSums.{name-part}
use Rattle.xml.specs.TagWritten.{bare-means, tag-text, sorted-over, sorted-less, writing_start, writing-next, writing-room}
use Rattle.xml.proofs.tag.put_tag.Goals as goal

pub is_bare-requires : goal.is_bare-requires
is_bare-requires c = c.requires.0

pub put_word-requires : goal.put_word-requires
put_word-requires c = omega (arith, c.requires.1, c.requires.2)

pub shape_of-out-then-is_bare : goal.shape_of-out-then-is_bare
shape_of-out-then-is_bare c = ap length c.put_word.ensures.bytes ∙ length_at _ _ _

pub returns-then-is_bare : goal.returns-then-is_bare
returns-then-is_bare c = rw (← bare-means c.requires.0 (sym c.is_bare.ensures ∙ c.if-is_bare.true)) at c.put_word.ensures

pub name_end-requires : goal.name_end-requires
name_end-requires c = (c.requires.0, c.requires.1)

pub put_word-to-requires : goal.put_word-to-requires
put_word-to-requires c = omega (arith, length-slice 0 c.name_end.result c.args.s.now (omega (arith, (tag-start c.requires.0).inside, c.name_end.ensures)), (tag-start c.requires.0).inside, c.name_end.ensures, c.requires.1, c.requires.2)

pub slice_bounds-put_word-end : goal.slice_bounds-put_word-end
slice_bounds-put_word-end c = sym (length-take-le c.name_end.result c.args.s.now (omega (arith, (tag-start c.requires.0).inside, c.name_end.ensures)))

pub next_part-i-requires : goal.next_part-i-requires
next_part-i-requires c = (c.requires.0, c.requires.1, omega arith, omega arith)

pub loop-i-init : goal.loop-i-init
loop-i-init c = (c.next_part-i.ensures.reached, writing_start c.requires.0 c.next_part-i.ensures)

pub part_at-p-requires : goal.part_at-p-requires
part_at-p-requires c = (c.requires.1, c.loop-i-test.true)

pub put_attr-to-requires : goal.put_attr-to-requires
put_attr-to-requires c =
    let here : PartIn c.args.s.now c.loop-i.i c.part_at-p.result = subst (λ g. PartIn c.args.s.now c.loop-i.i g) (sym c.part_at-p.ensures) (part_in c.loop-i.invariant.0 c.loop-i-test.true) in
    let named : c.put_word-to.result < 2 ^ 61 + 2 ^ 58 + 32768 = let a = c.args in let k = (tag-start c.requires.0).inside in let e = c.name_end.ensures in omega (arith, c.put_word-to.ensures.place, length-slice 0 c.name_end.result a.s.now (omega arith), c.requires.1, c.requires.2) in
    (here, c.requires.1, writing-room c.requires.0 c.requires.1 c.loop-i.invariant.1 named)

pub overflow_add-i : goal.overflow_add-i
overflow_add-i c = omega (arith, c.loop-i-test.true, c.requires.1)

pub next_part-i-requires-in-loop-i : goal.next_part-i-requires-in-loop-i
next_part-i-requires-in-loop-i c =
    let here : PartIn c.args.s.now c.loop-i.i c.part_at-p.result = subst (λ g. PartIn c.args.s.now c.loop-i.i g) (sym c.part_at-p.ensures) (part_in c.loop-i.invariant.0 c.loop-i-test.true) in
    let p = here in (c.requires.0, c.requires.1, omega (arith, p.named), omega (arith, p.valued, p.inside))

pub loop-i-smaller : goal.loop-i-smaller
loop-i-smaller c = sorted-less c.loop-i-test.true c.part_at-p.ensures c.next_part-i-in-loop-i.ensures

pub loop-i-preserved : goal.loop-i-preserved
loop-i-preserved c = (c.next_part-i-in-loop-i.ensures.reached, writing-next c.loop-i.invariant.1 c.loop-i-test.true c.part_at-p.ensures c.next_part-i-in-loop-i.ensures c.put_attr-to.ensures)

pub shape_of-out : goal.shape_of-out
shape_of-out c = ap length c.loop-i.invariant.1.wrote.bytes ∙ length_at _ _ _ ∙ ap length c.put_word-to.ensures.bytes ∙ length_at _ _ _

pub returns : goal.returns
unfolding attr_text
returns c = let s = c.args.s.now in
    rw (tag-text s) (wrote_then (rw (name-part s c.name_end.result c.name_end.ensures) at c.put_word-to.ensures) (left-done (rw (sorted-over c.loop-i.invariant.0 (omega arith)) at c.loop-i.invariant.1)))
