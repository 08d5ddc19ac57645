-- `order_in` meets its contract: the elements passed are the entries, in order.
use Prim.Native.Nat.{◌%◌, ◌<◌}
use native.Mathlib.Omega.{arith}
use mathlib.Core.Path.{◌≡◌}
use Rattle.xml.specs.Tape.{head_at}
use Rattle.xml.specs.TapeLaws.{Front, front}
use Rattle.keys.specs.Labelled.{Labelled}
use Rattle.keys.specs.Checked.{checked-next, checked-here}
use Rattle.keys.specs.Walks.{parted}
use Rattle.keys.specs.Siblings.{in_order}
use Rattle.keys.specs.ResultLaws.{none-not, some-is}
use Rattle.keys.specs.Entries.{Inserted, inserted, inserted-all}
use Rattle.keys.specs.Gathering.{Gathering, gathering-start, gathering-skip, gathering-room, gathering-twice, gathering-more, gathering-done}
use Rattle.keys.proofs.order.order_in.Goals as goal

pub loop-p-init : goal.loop-p-init
loop-p-init c = (omega arith, c.requires.0, c.requires.2, λ i l. absurd (omega arith), λ K q t e f h. gathering-start c.args.order.now h (c.requires.1 f h))

pub view-v-requires : goal.view-v-requires
view-v-requires c =
    let turn : Front c.args.doc.now.src.now c.args.doc.now.tape.now c.loop-p.p c.args.hi = front c.loop-p.invariant.1.tape c.loop-p-test.true in
    turn.held

pub rank_of-requires : goal.rank_of-requires
rank_of-requires c =
    let kind : head_at c.args.doc.now.tape.now c.loop-p.p % 4 ≡ 1 = rw c.view-v.ensures at c.if-v-eq1.true in
    let room : c.loop-p.k < 512 = let g = c.requires.0 in let x = c.loop-p.invariant.4 g.key_list g.path g.tabled g.place_is g.forest g.tape in gathering-room x (parted x.tape c.loop-p-test.true (kind)) in
    (room, c.loop-p.invariant.2, c.loop-p.invariant.3, checked-here c.loop-p.invariant.1 c.loop-p-test.true kind)

pub returns-in_err-j : goal.returns-in_err-j
returns-in_err-j c =
    let kind : head_at c.args.doc.now.tape.now c.loop-p.p % 4 ≡ 1 = rw c.view-v.ensures at c.if-v-eq1.true in
    rw c.from_residual.ensures (record {
      long = c.loop-p.invariant.2;
      small = λ j d. none-not d;
      sorted = λ K q t e f h.
          let x = c.loop-p.invariant.4 K q t e f h in
          let y = parted x.tape c.loop-p-test.true kind in
          record {
            alike = λ d. gathering-twice x y (c.rank_of.ensures.rank K q t e y.name y.kids y.node y.inner c.args.lo c.args.hi (in_order K q x.passed) x.lists) c.in_err-j.was;
            apart = λ j d. none-not d;
            lists = λ j d. none-not d;
          };
    })

pub insert-requires : goal.insert-requires
insert-requires c =
    let kind : head_at c.args.doc.now.tape.now c.loop-p.p % 4 ≡ 1 = rw c.view-v.ensures at c.if-v-eq1.true in
    let room : c.loop-p.k < 512 = let g = c.requires.0 in let x = c.loop-p.invariant.4 g.key_list g.path g.tabled g.place_is g.forest g.tape in gathering-room x (parted x.tape c.loop-p-test.true (kind)) in
    let turn : Front c.args.doc.now.src.now c.args.doc.now.tape.now c.loop-p.p c.args.hi = front c.loop-p.invariant.1.tape c.loop-p-test.true in
    (c.rank_of.ensures.inside _ c.in_ok-j.was, room, omega (arith, turn.forward, turn.inside, c.requires.3), c.loop-p.invariant.2)

pub overflow_add-k : goal.overflow_add-k
overflow_add-k c =
    let kind : head_at c.args.doc.now.tape.now c.loop-p.p % 4 ≡ 1 = rw c.view-v.ensures at c.if-v-eq1.true in
    let room : c.loop-p.k < 512 = let g = c.requires.0 in let x = c.loop-p.invariant.4 g.key_list g.path g.tabled g.place_is g.forest g.tape in gathering-room x (parted x.tape c.loop-p-test.true (kind)) in
    omega (arith, room)

pub loop-p-smaller-in_ok-j : goal.loop-p-smaller-in_ok-j
loop-p-smaller-in_ok-j c =
    let turn : Front c.args.doc.now.src.now c.args.doc.now.tape.now c.loop-p.p c.args.hi = front c.loop-p.invariant.1.tape c.loop-p-test.true in
    rw c.view-v.ensures (omega (arith, turn.forward, turn.inside))

pub loop-p-preserved-in_ok-j : goal.loop-p-preserved-in_ok-j
loop-p-preserved-in_ok-j c =
    let kind : head_at c.args.doc.now.tape.now c.loop-p.p % 4 ≡ 1 = rw c.view-v.ensures at c.if-v-eq1.true in
    let room : c.loop-p.k < 512 = let g = c.requires.0 in let x = c.loop-p.invariant.4 g.key_list g.path g.tabled g.place_is g.forest g.tape in gathering-room x (parted x.tape c.loop-p-test.true (kind)) in
    let put : Inserted c.loop-p.order c.loop-p.k c.in_ok-j.j c.loop-p.p c.insert.new.order = inserted c.insert.ensures c.loop-p.invariant.2 (c.rank_of.ensures.inside _ c.in_ok-j.was) (room) in
    let turn : Front c.args.doc.now.src.now c.args.doc.now.tape.now c.loop-p.p c.args.hi = front c.loop-p.invariant.1.tape c.loop-p-test.true in
    rw c.view-v.ensures (
      omega (arith, turn.forward, c.loop-p.invariant.0),
      checked-next c.loop-p.invariant.1 c.loop-p-test.true,
      put.long,
      inserted-all put (c.rank_of.ensures.inside _ c.in_ok-j.was) (Labelled c.args.keys.now.text.now c.args.keys.now.table.now c.args.keys.now.paths c.args.place c.args.doc.now.src.now c.args.doc.now.tape.now) c.loop-p.invariant.3
          (checked-here c.loop-p.invariant.1 c.loop-p-test.true kind),
      λ K q t e f h.
          let x = c.loop-p.invariant.4 K q t e f h in
          let y = parted x.tape c.loop-p-test.true kind in
          gathering-more x y (c.rank_of.ensures.rank K q t e y.name y.kids y.node y.inner c.args.lo c.args.hi (in_order K q x.passed) x.lists) c.in_ok-j.was
          put c.loop-p.invariant.0 turn.inside,
    )

pub loop-p-smaller : goal.loop-p-smaller
loop-p-smaller c =
    let turn : Front c.args.doc.now.src.now c.args.doc.now.tape.now c.loop-p.p c.args.hi = front c.loop-p.invariant.1.tape c.loop-p-test.true in
    rw c.view-v.ensures (omega (arith, turn.forward, turn.inside))

pub loop-p-preserved : goal.loop-p-preserved
loop-p-preserved c =
    let turn : Front c.args.doc.now.src.now c.args.doc.now.tape.now c.loop-p.p c.args.hi = front c.loop-p.invariant.1.tape c.loop-p-test.true in
    rw c.view-v.ensures (
      omega (arith, turn.forward, c.loop-p.invariant.0),
      checked-next c.loop-p.invariant.1 c.loop-p-test.true,
      c.loop-p.invariant.2,
      c.loop-p.invariant.3,
      λ K q t e f h. gathering-skip (c.loop-p.invariant.4 K q t e f h) c.loop-p-test.true (rw c.view-v.ensures at c.if-v-eq1.false),
    )

pub returns : goal.returns
returns c =
    let held : Gathering c.requires.0.key_list c.requires.0.path c.args.doc.now.src.now c.args.doc.now.tape.now c.args.lo c.args.hi c.loop-p.order c.requires.0.forest c.loop-p.p c.loop-p.k = let g = c.requires.0 in c.loop-p.invariant.4 g.key_list g.path g.tabled g.place_is g.forest g.tape in
    record {
      long = c.loop-p.invariant.2;
      small = λ j d. omega (arith, some-is d, held.few);
      sorted = λ K q t e f h. gathering-done (c.loop-p.invariant.4 K q t e f h) c.loop-p-test.false;
    }
