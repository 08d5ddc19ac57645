-- `legality::few::is_new` meets its contract. The loop's invariant (`Sought`): the content is among all nodes just where it is among those
-- left. Assumes nothing.
use native.Mathlib.Omega.{arith}
use mathlib.Core.Path.{◌≡◌, refl, sym, ◌∙◌}
use mathlib.Core.Bool.{true, false, and-false}
use Rattle.xml.specs.TapeLaws.{Front, front}
use Rattle.keys.specs.Legal.{untimed}
use Rattle.versions.specs.Branches.{Sought, first, repeats, sought-start, sought-found, sought-more, sought-none}
use Rattle.legality.proofs.few.is_new.Goals as goal

pub is_untimed-requires : goal.is_untimed-requires
is_untimed-requires c = c.requires.1

pub returns-then-not-is_untimed : goal.returns-then-not-is_untimed
returns-then-not-is_untimed c d k t u = let e : untimed k ≡ false = sym (c.is_untimed.ensures k u) ∙ c.if-not-is_untimed.true in rw e refl

pub loop-p-init : goal.loop-p-init
loop-p-init c d k t u = sought-start t

pub view-v-requires : goal.view-v-requires
view-v-requires c =
    let way : Sought c.args.doc.now.src.now c.args.doc.now.tape.now c.loop-p.p c.args.hi c.requires.1.forest c.requires.0.forest = c.loop-p.invariant c.requires.0.forest c.requires.1.forest c.requires.0.tape c.requires.1.tape in
    let here : Front c.args.doc.now.src.now c.args.doc.now.tape.now c.loop-p.p c.args.hi = front (way).tape c.loop-p-test.true in
    here.held

pub overflow_add-p : goal.overflow_add-p
overflow_add-p c =
    let way : Sought c.args.doc.now.src.now c.args.doc.now.tape.now c.loop-p.p c.args.hi c.requires.1.forest c.requires.0.forest = c.loop-p.invariant c.requires.0.forest c.requires.1.forest c.requires.0.tape c.requires.1.tape in
    let here : Front c.args.doc.now.src.now c.args.doc.now.tape.now c.loop-p.p c.args.hi = front (way).tape c.loop-p-test.true in
    omega (arith, here.held)

pub same_nodes-requires : goal.same_nodes-requires
same_nodes-requires c =
    let way : Sought c.args.doc.now.src.now c.args.doc.now.tape.now c.loop-p.p c.args.hi c.requires.1.forest c.requires.0.forest = c.loop-p.invariant c.requires.0.forest c.requires.1.forest c.requires.0.tape c.requires.1.tape in
    let g = first way.tape c.loop-p-test.true in rw c.view-v.ensures (c.requires.1, record { forest = _; tape = g.inside })

pub returns-then-same_nodes : goal.returns-then-same_nodes
returns-then-same_nodes c d k t u = let e : repeats k d ≡ true = sought-found (c.loop-p.invariant d k t u) c.loop-p-test.true (λ g h. sym c.if-same_nodes.true ∙ (rw c.view-v.ensures at c.same_nodes.ensures) k g u h) in rw (e, and-false (untimed k)) refl

pub loop-p-smaller : goal.loop-p-smaller
loop-p-smaller c =
    let way : Sought c.args.doc.now.src.now c.args.doc.now.tape.now c.loop-p.p c.args.hi c.requires.1.forest c.requires.0.forest = c.loop-p.invariant c.requires.0.forest c.requires.1.forest c.requires.0.tape c.requires.1.tape in
    let here : Front c.args.doc.now.src.now c.args.doc.now.tape.now c.loop-p.p c.args.hi = front (way).tape c.loop-p-test.true in
    let s = here in rw c.view-v.ensures (omega (arith, s.forward, s.inside))

pub loop-p-preserved : goal.loop-p-preserved
loop-p-preserved c = rw c.view-v.ensures (λ d k t u. sought-more (c.loop-p.invariant d k t u) c.loop-p-test.true (λ g h. sym c.if-same_nodes.false ∙ (rw c.view-v.ensures at c.same_nodes.ensures) k g u h))

pub returns : goal.returns
returns c d k t u = let e : repeats k d ≡ false = sought-none (c.loop-p.invariant d k t u) c.loop-p-test.false in let y : untimed k ≡ true = sym (c.is_untimed.ensures k u) ∙ c.if-not-is_untimed.false in rw (e, y) refl
