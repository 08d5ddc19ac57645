-- `xml::tag::tag_nodes` meets its contract: of a `T`, and of any other element. Assumes nothing.
use lib.Seq.{length-take-le}
use Prim.Native.Nat.{◌+◌}
use mathlib.Core.Path.{ap, sym, ◌∙◌}
use native.Mathlib.Omega.{arith}
use Rattle.xml.specs.Bytes.{bytes, same}
use Rattle.xml.specs.TagPlaces.{tag-start}
use Rattle.xml.specs.TagSums.{name-part, nodes-T, nodes-other, parts-few}
use Rattle.xml.proofs.tag.tag_nodes.Goals as goal

pub slice_bounds-is_byte-end : goal.slice_bounds-is_byte-end
slice_bounds-is_byte-end c = sym (length-take-le c.name_end.result c.args.s.now (omega (arith, (tag-start c.requires.0).inside, c.name_end.ensures)))

pub returns-then-is_byte : goal.returns-then-is_byte
unfolding bytes
returns-then-is_byte c = c.count_but.ensures ∙ nodes-T c.args.s.now (ap (λ x. same x (bytes "T")) (sym (name-part c.args.s.now c.name_end.result c.name_end.ensures)) ∙ sym c.is_byte.ensures ∙ c.if-is_byte.true)

pub overflow_add-result : goal.overflow_add-result
overflow_add-result c = omega (arith, c.attr_count.ensures, parts-few c.args.s.now, c.requires.1)

pub returns : goal.returns
unfolding bytes
returns c = ap (λ n. 1 + n) c.attr_count.ensures ∙ nodes-other c.args.s.now (ap (λ x. same x (bytes "T")) (sym (name-part c.args.s.now c.name_end.result c.name_end.ensures)) ∙ sym c.is_byte.ensures ∙ c.if-is_byte.false)
