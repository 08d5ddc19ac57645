-- `walks::retrieve::write_version` and `write_node` meet their contracts: siblings by a loop, depth by recursion; a node is written into the part
-- of the output that it is lent. Each node has 163,840 bytes of room.
use Rattle.std.proofs.lemmas.List.{length-take}
use Rattle.std.proofs.lemmas.Slice.{between_is}
use Prim.Native.Nat.{ℕ, ◌%◌}
use native.Mathlib.Omega.{arith}
use mathlib.Core.Path.{◌≡◌, ap, sym, ◌∙◌}
use Rattle.xml.specs.OverLaws.{lent_back}
use Rattle.xml.specs.Tape.{head_at, next_at}
use Rattle.xml.specs.TapeLaws.{Front, bytes_at, front}
use Rattle.timestamp.specs.Times.{belongs}
use Rattle.versions.specs.Timely.{timely-first, timely-rest, timely-inside}
use Rattle.versions.specs.Rendered.{node-part, open-room, going-none, going_more, going_done, text-renders, element-renders}
use Rattle.versions.specs.VersionText.{version-pieces, version-length, stamp-in, stamp-out}
use Rattle.walks.proofs.retrieve.+write_node_write_version.Goals as goal

pub write_node-returns-then-v-eq0 : goal.write_node-returns-then-v-eq0
write_node-returns-then-v-eq0 t c = let v = c.view-v.ensures in
    text-renders (version-pieces c.args.i) c.requires.0 (rw v at c.if-v-eq0.true) (rw v at (simp between_is at c.put_text.ensures))

pub write_node-write_version-close-requires : goal.write_node-write_version-close-requires
write_node-write_version-close-requires t c =
    let here : Front c.args.doc.now.src.now c.args.doc.now.tape.now c.args.p (next_at c.args.doc.now.tape.now c.args.p) = front c.requires.1.tape c.requires.0 in
    let v = c.view-v.ensures in
    let k = rw v at c.if-v-eq0.false in
    let o = open-room here (rw v at (simp between_is at c.put_open-inside.ensures)) in
    rw v (omega (arith, c.decreases, c.requires.0), (timely-inside c.requires.1 c.requires.0 k, omega (arith, c.requires.2, c.requires.0)))

pub write_node-put_close-requires : goal.write_node-put_close-requires
write_node-put_close-requires t c =
    let here : Front c.args.doc.now.src.now c.args.doc.now.tape.now c.args.p (next_at c.args.doc.now.tape.now c.args.p) = front c.requires.1.tape c.requires.0 in
    let v = c.view-v.ensures in
    let x = timely-inside c.requires.1 c.requires.0 (rw v at c.if-v-eq0.false) in
    let k = rw v at c.write_version-close.ensures in
    let o = open-room here (rw v at (simp between_is at c.put_open-inside.ensures)) in
    rw v (omega (arith, length-take {A = ℕ}, here.within, (k x.forest x.tape).place, version-length c.args.i x.tape, c.requires.2, c.requires.0))

pub write_node-returns-then-v-eq1 : goal.write_node-returns-then-v-eq1
write_node-returns-then-v-eq1 t c = let v = c.view-v.ensures in
    element-renders (version-pieces c.args.i) c.requires.0 (rw v at c.if-v-eq1.true) (rw v at (simp between_is at c.put_open-inside.ensures)) (rw v at c.write_version-close.ensures) (rw v at (simp between_is at c.put_close.ensures))

pub write_node-write_version-requires : goal.write_node-write_version-requires
write_node-write_version-requires t c = let v = c.view-v.ensures in
    let k = rw v at c.if-v-eq0.false in
    rw v (omega (arith, c.decreases, c.requires.0), (timely-inside c.requires.1 c.requires.0 k, omega (arith, c.requires.2, c.requires.0)))

pub write_node-returns-then-belongs : goal.write_node-returns-then-belongs
write_node-returns-then-belongs t c =
    let text : c.belongs.result ≡ belongs c.args.i (bytes_at c.args.doc.now.src.now c.args.doc.now.tape.now c.args.p) = rw c.view-v.ensures at c.belongs.ensures ∙ ap (belongs c.args.i) (node-part c.args.doc.now.src.now c.args.doc.now.tape.now c.args.p) in
    let here : Front c.args.doc.now.src.now c.args.doc.now.tape.now c.args.p (next_at c.args.doc.now.tape.now c.args.p) = front c.requires.1.tape c.requires.0 in
    let times : head_at c.args.doc.now.tape.now c.args.p % 4 ≡ 2 = let v = c.view-v.ensures in omega (arith, rw v at c.if-v-eq0.false, rw v at c.if-v-eq1.false, (here).kind) in
    let v = c.view-v.ensures in
    stamp-in c.args.i c.requires.0 times (sym text ∙ c.if-belongs.true) (rw v at c.write_version.ensures)

pub write_node-returns : goal.write_node-returns
write_node-returns t c =
    let text : c.belongs.result ≡ belongs c.args.i (bytes_at c.args.doc.now.src.now c.args.doc.now.tape.now c.args.p) = rw c.view-v.ensures at c.belongs.ensures ∙ ap (belongs c.args.i) (node-part c.args.doc.now.src.now c.args.doc.now.tape.now c.args.p) in
    let here : Front c.args.doc.now.src.now c.args.doc.now.tape.now c.args.p (next_at c.args.doc.now.tape.now c.args.p) = front c.requires.1.tape c.requires.0 in
    let times : head_at c.args.doc.now.tape.now c.args.p % 4 ≡ 2 = let v = c.view-v.ensures in omega (arith, rw v at c.if-v-eq0.false, rw v at c.if-v-eq1.false, (here).kind) in
    stamp-out c.args.i c.requires.0 times (sym text ∙ c.if-belongs.false)

pub write_version-loop-p-init : goal.write_version-loop-p-init
write_version-loop-p-init t c = (omega arith, c.requires.0, omega arith, λ f h. going-none h)

pub write_version-write_node-to-requires : goal.write_version-write_node-to-requires
write_version-write_node-to-requires t c =
    let turn : Front c.args.doc.now.src.now c.args.doc.now.tape.now c.loop-p.p c.args.hi = front c.loop-p.invariant.1.tape c.loop-p-test.true in
    let s = turn in
    let i = c.loop-p.invariant in
    (omega (arith, s.forward, s.inside, i.0, c.decreases), (s.forward, timely-first i.1 c.loop-p-test.true, omega (arith, s.forward, s.inside, i.2, c.requires.1)))

pub write_version-overflow_add-to : goal.write_version-overflow_add-to
write_version-overflow_add-to t c =
    let turn : Front c.args.doc.now.src.now c.args.doc.now.tape.now c.loop-p.p c.args.hi = front c.loop-p.invariant.1.tape c.loop-p-test.true in
    let s = turn in
    let i = c.loop-p.invariant in
    let x = timely-first i.1 c.loop-p-test.true in
    omega (arith, s.forward, s.inside, i.2, c.requires.1, (c.write_node-to.ensures x.forest x.tape).place, version-length c.args.i x.tape)

pub write_version-view-p-requires : goal.write_version-view-p-requires
write_version-view-p-requires t c =
    let turn : Front c.args.doc.now.src.now c.args.doc.now.tape.now c.loop-p.p c.args.hi = front c.loop-p.invariant.1.tape c.loop-p-test.true in
    turn.held

pub write_version-loop-p-smaller : goal.write_version-loop-p-smaller
write_version-loop-p-smaller t c =
    let turn : Front c.args.doc.now.src.now c.args.doc.now.tape.now c.loop-p.p c.args.hi = front c.loop-p.invariant.1.tape c.loop-p-test.true in
    let s = turn in rw c.view-p.ensures (omega (arith, s.forward, s.inside))

pub write_version-loop-p-preserved : goal.write_version-loop-p-preserved
write_version-loop-p-preserved t c =
    let turn : Front c.args.doc.now.src.now c.args.doc.now.tape.now c.loop-p.p c.args.hi = front c.loop-p.invariant.1.tape c.loop-p-test.true in
    let s = turn in
    let i = c.loop-p.invariant in
    let x = timely-first i.1 c.loop-p-test.true in
    let w = c.write_node-to.ensures in
    rw c.view-p.ensures (omega (arith, s.forward, i.0), timely-rest i.1 c.loop-p-test.true, omega (arith, s.forward, s.inside, i.2, (w x.forest x.tape).place, version-length c.args.i x.tape), λ f h. going_more (version-pieces c.args.i) (i.3 f h) c.loop-p-test.true (λ g k. lent_back c.loop-p.out c.loop-p.to c.least-from.result c.least-from.ensures (w g k)))

pub write_version-returns : goal.write_version-returns
write_version-returns t c f h = going_done (version-pieces c.args.i) (c.loop-p.invariant.3 f h) c.loop-p-test.false
