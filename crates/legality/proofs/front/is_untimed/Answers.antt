-- `archive::front::is_untimed` meets its contract. The loop's invariant: no node passed is a `T` or named so. Assumes nothing.
use native.Mathlib.Omega.{arith}
use mathlib.Core.Path.{sym, ◌∙◌}
use Rattle.xml.specs.SameTapes.{At, tape-at}
use Rattle.versions.specs.Untimed.{untimed-all, untimed-not, untimed-more}
use Rattle.legality.proofs.front.is_untimed.Goals as goal

pub loop-i-init : goal.loop-i-init
loop-i-init c j a b = absurd (omega arith)

pub view-v-requires : goal.view-v-requires
view-v-requires c =
    let here : At c.args.doc.now.src.now c.args.doc.now.tape.now c.loop-i.i = tape-at c.loop-i.i c.requires.tape c.loop-i.auto.i c.loop-i-test.true in
    here.held

pub is_timed-requires : goal.is_timed-requires
is_timed-requires c =
    let here : At c.args.doc.now.src.now c.args.doc.now.tape.now c.loop-i.i = tape-at c.loop-i.i c.requires.tape c.loop-i.auto.i c.loop-i-test.true in
    rw c.view-v.ensures (omega arith, here.within)

pub returns-then-is_timed : goal.returns-then-is_timed
returns-then-is_timed c f t = sym (untimed-not c.loop-i.i t c.loop-i.auto.i c.loop-i-test.true (sym (rw c.view-v.ensures at c.is_timed.ensures) ∙ c.if-is_timed.true))

pub loop-i-preserved : goal.loop-i-preserved
loop-i-preserved c = untimed-more c.args.doc.now.src.now c.args.doc.now.tape.now c.loop-i.i c.loop-i.invariant (sym (rw c.view-v.ensures at c.is_timed.ensures) ∙ c.if-is_timed.false)

pub returns : goal.returns
returns c f t = sym (untimed-all t (λ i a b. c.loop-i.invariant i a (omega arith)))
