-- `find_key` meets its contract: the nodes left hold all elements of the name.
use native.Mathlib.Omega.{arith}
use mathlib.Core.Path.{sym, ◌∙◌}
use Rattle.xml.specs.TapeLaws.{Front, front}
use Rattle.keys.specs.FindKey.{key-over, key-past, key_here, key-none}
use Rattle.keys.specs.Walks.{going_start}
use Rattle.keys.proofs.label.find_key.Goals as goal

pub loop-p-init : goal.loop-p-init
loop-p-init c f h = going_start _ h

pub view-v-requires : goal.view-v-requires
view-v-requires c =
    let turn : Front c.args.doc.now.src.now c.args.doc.now.tape.now c.loop-p.p c.args.hi = front (c.loop-p.invariant c.requires.forest c.requires.tape).tape c.loop-p-test.true in
    turn.held

pub part-requires : goal.part-requires
part-requires c =
    let turn : Front c.args.doc.now.src.now c.args.doc.now.tape.now c.loop-p.p c.args.hi = front (c.loop-p.invariant c.requires.forest c.requires.tape).tape c.loop-p-test.true in
    rw c.view-v.ensures (omega arith, turn.within)

pub returns-then-same_bytes : goal.returns-then-same_bytes
returns-then-same_bytes c f h = key_here c.args.name.now (c.loop-p.invariant f h) c.loop-p-test.true (rw c.view-v.ensures at c.if-v-eq1.true) (rw (c.part.ensures, c.view-v.ensures) at (sym c.same_bytes.ensures ∙ c.if-same_bytes.true))

pub loop-p-smaller-else-same_bytes : goal.loop-p-smaller-else-same_bytes
loop-p-smaller-else-same_bytes c =
    let turn : Front c.args.doc.now.src.now c.args.doc.now.tape.now c.loop-p.p c.args.hi = front (c.loop-p.invariant c.requires.forest c.requires.tape).tape c.loop-p-test.true in
    rw c.view-v.ensures (omega (arith, turn.forward, turn.inside))

pub loop-p-preserved-else-same_bytes : goal.loop-p-preserved-else-same_bytes
loop-p-preserved-else-same_bytes c = rw c.view-v.ensures (λ f h. key-past c.args.name.now (c.loop-p.invariant f h) c.loop-p-test.true (rw c.view-v.ensures at c.if-v-eq1.true) (rw (c.part.ensures, c.view-v.ensures) at (sym c.same_bytes.ensures ∙ c.if-same_bytes.false)))

pub loop-p-smaller : goal.loop-p-smaller
loop-p-smaller c =
    let turn : Front c.args.doc.now.src.now c.args.doc.now.tape.now c.loop-p.p c.args.hi = front (c.loop-p.invariant c.requires.forest c.requires.tape).tape c.loop-p-test.true in
    rw c.view-v.ensures (omega (arith, turn.forward, turn.inside))

pub loop-p-preserved : goal.loop-p-preserved
loop-p-preserved c = rw c.view-v.ensures (λ f h. key-over c.args.name.now (c.loop-p.invariant f h) c.loop-p-test.true (rw c.view-v.ensures at c.if-v-eq1.false))

pub returns : goal.returns
returns c f h = key-none (c.loop-p.invariant f h) c.loop-p-test.false
