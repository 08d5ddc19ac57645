-- `xml::tag::same_tags` meets its contract: a law for each return (TagSame). Assumes nothing.
use mathlib.Core.Path.{◌≡◌, ap₂, sym, ◌∙◌}
use native.Mathlib.Omega.{arith}
use lib.Seq.{length-take-le}
use Rattle.xml.specs.Bytes.{same}
use Rattle.xml.specs.Tags.{name_of}
use Rattle.xml.specs.TagPlaces.{tag-start}
use Rattle.xml.specs.TagSums.{name-part}
use Rattle.xml.specs.TagSame.{tags-same, tags-named, tags-spelled, bare-first, bare-second}
use Rattle.xml.proofs.tag.same_tags.Goals as goal

pub returns-then-same_bytes : goal.returns-then-same_bytes
returns-then-same_bytes c = sym (tags-spelled c.args.s1.now c.args.s2.now (sym c.same_bytes.ensures ∙ c.if-same_bytes.true))

pub returns-then-is_bare : goal.returns-then-is_bare
returns-then-is_bare c = sym (bare-first c.requires.0 c.requires.2 (sym c.same_bytes.ensures ∙ c.if-same_bytes.false) (sym c.is_bare.ensures ∙ c.if-is_bare.true))

pub returns-then-is_bare-2 : goal.returns-then-is_bare-2
returns-then-is_bare-2 c = sym (bare-second c.requires.0 c.requires.2 (sym c.same_bytes.ensures ∙ c.if-same_bytes.false) (sym c.is_bare-2.ensures ∙ c.if-is_bare-2.true))

pub slice_bounds-same_bytes-end : goal.slice_bounds-same_bytes-end
slice_bounds-same_bytes-end c = sym (length-take-le c.name_end.result c.args.s1.now (omega (arith, (tag-start c.requires.0).inside, c.name_end.ensures)))

pub slice_bounds-same_bytes-end-2 : goal.slice_bounds-same_bytes-end-2
slice_bounds-same_bytes-end-2 c = sym (length-take-le c.name_end-2.result c.args.s2.now (omega (arith, (tag-start c.requires.2).inside, c.name_end-2.ensures)))

pub returns-then-not-same_bytes : goal.returns-then-not-same_bytes
returns-then-not-same_bytes c =
    let names : same (name_of c.args.s1.now) (name_of c.args.s2.now) ≡ c.same_bytes-2.result = sym (c.same_bytes-2.ensures ∙ ap₂ same (name-part c.args.s1.now c.name_end.result c.name_end.ensures) (name-part c.args.s2.now c.name_end-2.result c.name_end-2.ensures)) in
    sym (tags-named c.requires.0 c.requires.2 (names ∙ c.if-not-same_bytes.true))

pub returns : goal.returns
returns c =
    let names : same (name_of c.args.s1.now) (name_of c.args.s2.now) ≡ c.same_bytes-2.result = sym (c.same_bytes-2.ensures ∙ ap₂ same (name-part c.args.s1.now c.name_end.result c.name_end.ensures) (name-part c.args.s2.now c.name_end-2.result c.name_end-2.ensures)) in
    c.same_attrs.ensures ∙ sym (tags-same c.requires.0 c.requires.2 (names ∙ c.if-not-same_bytes.false))
