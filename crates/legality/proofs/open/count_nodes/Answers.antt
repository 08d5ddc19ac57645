-- `archive::open::count_nodes` meets its contract. The loop's invariant: what is counted, with the tally of the nodes left, is that of all
-- the nodes. Assumes nothing.
use native.Mathlib.Omega.{arith}
use mathlib.Core.Path.{◌≡◌}
use Rattle.xml.specs.SameTapes.{At, tape-at}
use Rattle.versions.specs.Untimed.{timed_at}
use Rattle.versions.specs.NodeCount.{weight, weight-most, tally-more, tally-none, tally-nodes}
use Rattle.legality.proofs.open.count_nodes.Goals as goal

pub loop-i-init : goal.loop-i-init
loop-i-init c = (omega arith, omega arith)

pub view-v-requires : goal.view-v-requires
view-v-requires c =
    let here : At c.args.doc.now.src.now c.args.doc.now.tape.now c.loop-i.i = tape-at c.loop-i.i c.requires.tape c.loop-i.auto.i c.loop-i-test.true in
    here.held

pub weight-n-requires : goal.weight-n-requires
weight-n-requires c =
    let here : At c.args.doc.now.src.now c.args.doc.now.tape.now c.loop-i.i = tape-at c.loop-i.i c.requires.tape c.loop-i.auto.i c.loop-i-test.true in
    rw c.view-v.ensures (omega arith, here.within)

pub overflow_add-n : goal.overflow_add-n
overflow_add-n c =
    let here : At c.args.doc.now.src.now c.args.doc.now.tape.now c.loop-i.i = tape-at c.loop-i.i c.requires.tape c.loop-i.auto.i c.loop-i-test.true in
    let one : c.weight-n.result ≡ weight (timed_at c.args.doc.now.src.now c.args.doc.now.tape.now c.loop-i.i) = rw c.view-v.ensures at c.weight-n.ensures in
    omega (arith, one, weight-most (timed_at c.args.doc.now.src.now c.args.doc.now.tape.now c.loop-i.i), here.held, c.loop-i.invariant.0)

pub loop-i-preserved : goal.loop-i-preserved
loop-i-preserved c =
    let one : c.weight-n.result ≡ weight (timed_at c.args.doc.now.src.now c.args.doc.now.tape.now c.loop-i.i) = rw c.view-v.ensures at c.weight-n.ensures in (
      omega (arith, c.loop-i.invariant.0, one, weight-most (timed_at c.args.doc.now.src.now c.args.doc.now.tape.now c.loop-i.i)),
      omega (arith, one, c.loop-i.invariant.1, tally-more c.args.doc.now.src.now c.args.doc.now.tape.now c.loop-i.i c.args.hi c.loop-i-test.true),
    )

pub returns : goal.returns
returns c f t = omega (arith, c.loop-i.invariant.1, tally-none c.args.doc.now.src.now c.args.doc.now.tape.now c.loop-i.i c.args.hi (omega arith), tally-nodes t)
