-- `archive::open::outer_of` meets its contract: no node, another than a `T`, a `T` and more, or a `T`. Assumes nothing.
use native.Mathlib.Omega.{arith}
use mathlib.Core.Path.{sym, ◌∙◌}
use Rattle.xml.specs.TapeLaws.{Front, front}
use Rattle.versions.specs.LegalWhole.{outer-none, outer-not, outer-more, outer-is}
use Rattle.legality.proofs.open.outer_of.Goals as goal

pub returns-then-hi-eq0 : goal.returns-then-hi-eq0
returns-then-hi-eq0 c f t = outer-none t (omega arith)

pub view-v-requires : goal.view-v-requires
view-v-requires c =
    let first : Front c.args.doc.now.src.now c.args.doc.now.tape.now 0 c.args.hi = front c.requires.tape (omega (arith, c.if-hi-eq0.false)) in
    first.held

pub returns-then-v-ne2 : goal.returns-then-v-ne2
returns-then-v-ne2 c f t = outer-not t (rw c.view-v.ensures at c.if-v-ne2.true)

pub returns-then-v-hi : goal.returns-then-v-hi
returns-then-v-hi c f t = outer-more t (rw c.view-v.ensures at c.if-v-hi.true)

pub outer_last-n-requires : goal.outer_last-n-requires
outer_last-n-requires c =
    let first : Front c.args.doc.now.src.now c.args.doc.now.tape.now 0 c.args.hi = front c.requires.tape (omega (arith, c.if-hi-eq0.false)) in
    rw c.view-v.ensures (omega arith, first.within)

pub returns-then-n-eq0 : goal.returns-then-n-eq0
returns-then-n-eq0 c f t = outer-is t (omega (arith, c.if-hi-eq0.false)) (rw c.view-v.ensures at c.if-v-ne2.false) (rw c.view-v.ensures at c.if-v-hi.false)
    ∙ sym (rw c.view-v.ensures at c.outer_last-n.ensures) ∙ c.if-n-eq0.true

pub returns : goal.returns
returns c f t = (
  rw c.view-v.ensures at c.outer_last-n.ensures
      ∙ sym (outer-is t (omega (arith, c.if-hi-eq0.false)) (rw c.view-v.ensures at c.if-v-ne2.false) (rw c.view-v.ensures at c.if-v-hi.false)),
  omega (arith, c.if-n-eq0.false),
)
