-- `write_new` meets its contract: the elements before q are written.
use native.Mathlib.Omega.{arith}
use mathlib.Core.Path.{refl, ◌∙◌, ap}
use lib.ListN.{length}
use Rattle.xml.specs.OverLaws.{length_at, lent_back}
use Rattle.xml.specs.TapeLaws.{Front, front, tape-le}
use Rattle.versions.specs.AddFront.{valid-first, valid-rest}
use Rattle.versions.specs.AddWalk.{newer-none, newer-more, newer-done}
use Rattle.adding.proofs.sibling.write_new.Goals as goal

pub loop-q-init : goal.loop-q-init
loop-q-init c = (omega arith, c.requires.1, omega arith, refl, λ K w v h x. newer-none h x)

pub view-w-requires : goal.view-w-requires
view-w-requires c =
    let turn : Front c.args.version.now.src.now c.args.version.now.tape.now c.loop-q.q c.args.vhi = front c.loop-q.invariant.1.tape c.loop-q-test.true in
    turn.held

pub slice_bounds-put_newest-count : goal.slice_bounds-put_newest-count
slice_bounds-put_newest-count c = omega (arith, c.least-from.ensures)

pub slice_bounds-put_newest-start : goal.slice_bounds-put_newest-start
slice_bounds-put_newest-start c = omega (arith, c.least-from.ensures)

pub put_newest-to-requires : goal.put_newest-to-requires
put_newest-to-requires c =
    let turn : Front c.args.version.now.src.now c.args.version.now.tape.now c.loop-q.q c.args.vhi = front c.loop-q.invariant.1.tape c.loop-q-test.true in
    let t = turn in rw c.view-w.ensures (c.requires.0, valid-first c.loop-q.invariant.1 c.loop-q-test.true, omega (arith, t.inside, c.requires.2), omega (arith, c.loop-q.invariant.0, c.loop-q.invariant.2, c.requires.3, c.loop-q-test.true))

pub overflow_add-to : goal.overflow_add-to
overflow_add-to c =
    let turn : Front c.args.version.now.src.now c.args.version.now.tape.now c.loop-q.q c.args.vhi = front c.loop-q.invariant.1.tape c.loop-q-test.true in
    let t = turn in
    omega (arith, t.forward, t.inside, c.loop-q.invariant.0, c.loop-q.invariant.2, c.requires.3, (rw c.view-w.ensures at c.put_newest-to.ensures).1)

pub loop-q-smaller : goal.loop-q-smaller
loop-q-smaller c =
    let turn : Front c.args.version.now.src.now c.args.version.now.tape.now c.loop-q.q c.args.vhi = front c.loop-q.invariant.1.tape c.loop-q-test.true in
    let t = turn in rw c.view-w.ensures (omega (arith, t.forward, t.inside))

pub loop-q-preserved : goal.loop-q-preserved
loop-q-preserved c =
    let turn : Front c.args.version.now.src.now c.args.version.now.tape.now c.loop-q.q c.args.vhi = front c.loop-q.invariant.1.tape c.loop-q-test.true in
    let e = c.view-w.ensures in
    let t = turn in
    let l = c.loop-q-test.true in
    let y = valid-first c.loop-q.invariant.1 l in
    let w = rw e at c.put_newest-to.ensures in
    rw e (
      omega (arith, t.forward, c.loop-q.invariant.0),
      valid-rest c.loop-q.invariant.1 l,
      omega (arith, t.forward, c.loop-q.invariant.0, c.loop-q.invariant.2, w.1),
      ap length (lent_back c.loop-q.out c.loop-q.to c.least-from.result c.least-from.ensures (w.0 y.forest y.tape)).bytes ∙ length_at _ _ _ ∙ c.loop-q.invariant.3,
      λ K u v h x. newer-more (c.loop-q.invariant.4 K u v h x) l (λ f k. lent_back c.loop-q.out c.loop-q.to c.least-from.result c.least-from.ensures (w.0 f k)),
    )

pub shape_of-out : goal.shape_of-out
shape_of-out c = c.loop-q.invariant.3

pub returns : goal.returns
returns c = (λ K w v h x. newer-done (c.loop-q.invariant.4 K w v h x) c.loop-q-test.false, omega (arith, c.loop-q.invariant.0, c.loop-q.invariant.2, tape-le c.loop-q.invariant.1.tape))
