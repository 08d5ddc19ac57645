-- `xml::writer::write_content` and `xml::writer::write_element` meet their contracts: they call each other, and the nodes that are left fall.
-- Of the siblings, those before p are written, and the rest is left; an element writes into the part that it is lent. Assumes nothing.
use native.Mathlib.Omega.{arith}
use mathlib.Core.Path.{ap, sym, ◌∙◌}
use lib.ListN.{length}
use Rattle.xml.specs.Forest.{write}
use lib.Seq.{length-slice}
use Rattle.xml.specs.Tape.{head_at, next_at, start_in, end_in}
use Rattle.xml.specs.OverLaws.{length_at, wrote_then, lent_back}
use Rattle.xml.specs.TapeLaws.{Front, OneRun, Rest, tape-room, front, inner-node, one-run, rest-none, rest_more, rest-done}
use Rattle.xml.specs.WriteLaws.{Fit, fit-start, inner-fit, rest-fit, run-writes, text-writes}
use Prim.Native.Nat.{◌+◌}
use Rattle.xml.proofs.writer.+write_content_write_element.Goals as goal

pub write_content-loop-p-init : goal.write_content-loop-p-init
write_content-loop-p-init t c = (omega arith, λ f h. rest-none h)

pub write_content-view-v-requires : goal.write_content-view-v-requires
write_content-view-v-requires t c =
    let way : Rest c.args.doc.now.src.now c.args.doc.now.tape.now c.loop-p.p c.args.hi (write c.requires.forest) c.args.out.now c.args.at c.loop-p.to c.loop-p.out = c.loop-p.invariant.1 c.requires.forest c.requires.tape in
    let turn : Front c.args.doc.now.src.now c.args.doc.now.tape.now c.loop-p.p c.args.hi = front (way).tape c.loop-p-test.true in
    turn.held

pub write_content-put_text-to-requires : goal.write_content-put_text-to-requires
write_content-put_text-to-requires t c =
    let way : Rest c.args.doc.now.src.now c.args.doc.now.tape.now c.loop-p.p c.args.hi (write c.requires.forest) c.args.out.now c.args.at c.loop-p.to c.loop-p.out = c.loop-p.invariant.1 c.requires.forest c.requires.tape in
    let fit : Fit c.args.doc.now.src.now c.args.doc.now.tape.now c.loop-p.p (next_at c.args.doc.now.tape.now c.loop-p.p) c.loop-p.to = rest-fit c.requires (way) c.loop-p-test.true in
    let turn : Front c.args.doc.now.src.now c.args.doc.now.tape.now c.loop-p.p c.args.hi = front (way).tape c.loop-p-test.true in
    rw (c.part.ensures, c.view-v.ensures) (omega (arith, turn.within, fit.room, length-slice (start_in (head_at c.args.doc.now.tape.now c.loop-p.p)) (end_in (head_at c.args.doc.now.tape.now c.loop-p.p)) c.args.doc.now.src.now turn.within))

pub write_content-part-requires : goal.write_content-part-requires
write_content-part-requires t c =
    let way : Rest c.args.doc.now.src.now c.args.doc.now.tape.now c.loop-p.p c.args.hi (write c.requires.forest) c.args.out.now c.args.at c.loop-p.to c.loop-p.out = c.loop-p.invariant.1 c.requires.forest c.requires.tape in
    let turn : Front c.args.doc.now.src.now c.args.doc.now.tape.now c.loop-p.p c.args.hi = front (way).tape c.loop-p-test.true in
    rw c.view-v.ensures (omega arith, turn.within)

pub write_content-slice_bounds-write_element-count : goal.write_content-slice_bounds-write_element-count
write_content-slice_bounds-write_element-count t c = omega (arith, c.least-from.ensures)

pub write_content-write_element-to-requires : goal.write_content-write_element-to-requires
write_content-write_element-to-requires t c =
    let way : Rest c.args.doc.now.src.now c.args.doc.now.tape.now c.loop-p.p c.args.hi (write c.requires.forest) c.args.out.now c.args.at c.loop-p.to c.loop-p.out = c.loop-p.invariant.1 c.requires.forest c.requires.tape in
    let fit : Fit c.args.doc.now.src.now c.args.doc.now.tape.now c.loop-p.p (next_at c.args.doc.now.tape.now c.loop-p.p) c.loop-p.to = rest-fit c.requires (way) c.loop-p-test.true in
    let turn : Front c.args.doc.now.src.now c.args.doc.now.tape.now c.loop-p.p c.args.hi = front (way).tape c.loop-p-test.true in
    let s = turn in
    (omega (arith, s.forward, s.inside, c.loop-p.invariant.0, c.decreases), (s.forward, rw c.view-v.ensures at c.if-v-eq0.false, fit-start fit))

pub write_content-overflow_add-to : goal.write_content-overflow_add-to
write_content-overflow_add-to t c =
    let way : Rest c.args.doc.now.src.now c.args.doc.now.tape.now c.loop-p.p c.args.hi (write c.requires.forest) c.args.out.now c.args.at c.loop-p.to c.loop-p.out = c.loop-p.invariant.1 c.requires.forest c.requires.tape in
    let fit : Fit c.args.doc.now.src.now c.args.doc.now.tape.now c.loop-p.p (next_at c.args.doc.now.tape.now c.loop-p.p) c.loop-p.to = rest-fit c.requires (way) c.loop-p-test.true in
    let g = fit in
    omega (arith, g.room, (c.write_element-to.ensures g.forest g.tape).place)

pub write_content-loop-p-smaller-then-v-eq0 : goal.write_content-loop-p-smaller-then-v-eq0
write_content-loop-p-smaller-then-v-eq0 t c =
    let way : Rest c.args.doc.now.src.now c.args.doc.now.tape.now c.loop-p.p c.args.hi (write c.requires.forest) c.args.out.now c.args.at c.loop-p.to c.loop-p.out = c.loop-p.invariant.1 c.requires.forest c.requires.tape in
    let turn : Front c.args.doc.now.src.now c.args.doc.now.tape.now c.loop-p.p c.args.hi = front (way).tape c.loop-p-test.true in
    let s = turn in rw c.view-v.ensures (omega (arith, s.forward, s.inside))

pub write_content-loop-p-preserved-then-v-eq0 : goal.write_content-loop-p-preserved-then-v-eq0
write_content-loop-p-preserved-then-v-eq0 t c =
    let way : Rest c.args.doc.now.src.now c.args.doc.now.tape.now c.loop-p.p c.args.hi (write c.requires.forest) c.args.out.now c.args.at c.loop-p.to c.loop-p.out = c.loop-p.invariant.1 c.requires.forest c.requires.tape in
    let turn : Front c.args.doc.now.src.now c.args.doc.now.tape.now c.loop-p.p c.args.hi = front (way).tape c.loop-p-test.true in
    let v = c.view-v.ensures in
    let s = turn in
    rw v (omega (arith, s.forward, c.loop-p.invariant.0), λ f h. rest_more (c.loop-p.invariant.1 f h) c.loop-p-test.true (text-writes s.forward (rw v at c.if-v-eq0.true) (rw (c.part.ensures, v) at c.put_text-to.ensures)))

pub write_content-loop-p-smaller : goal.write_content-loop-p-smaller
write_content-loop-p-smaller t c =
    let way : Rest c.args.doc.now.src.now c.args.doc.now.tape.now c.loop-p.p c.args.hi (write c.requires.forest) c.args.out.now c.args.at c.loop-p.to c.loop-p.out = c.loop-p.invariant.1 c.requires.forest c.requires.tape in
    let turn : Front c.args.doc.now.src.now c.args.doc.now.tape.now c.loop-p.p c.args.hi = front (way).tape c.loop-p-test.true in
    let s = turn in rw c.view-v.ensures (omega (arith, s.forward, s.inside))

pub write_content-loop-p-preserved : goal.write_content-loop-p-preserved
write_content-loop-p-preserved t c =
    let way : Rest c.args.doc.now.src.now c.args.doc.now.tape.now c.loop-p.p c.args.hi (write c.requires.forest) c.args.out.now c.args.at c.loop-p.to c.loop-p.out = c.loop-p.invariant.1 c.requires.forest c.requires.tape in
    let turn : Front c.args.doc.now.src.now c.args.doc.now.tape.now c.loop-p.p c.args.hi = front (way).tape c.loop-p-test.true in
    let s = turn in
    rw c.view-v.ensures (
      omega (arith, s.forward, c.loop-p.invariant.0),
      λ f h. rest_more (c.loop-p.invariant.1 f h) c.loop-p-test.true (λ g k. lent_back c.loop-p.out c.loop-p.to c.least-from.result c.least-from.ensures (c.write_element-to.ensures g k)),
    )

pub write_content-shape_of-out : goal.write_content-shape_of-out
write_content-shape_of-out t c =
    let way : Rest c.args.doc.now.src.now c.args.doc.now.tape.now c.loop-p.p c.args.hi (write c.requires.forest) c.args.out.now c.args.at c.loop-p.to c.loop-p.out = c.loop-p.invariant.1 c.requires.forest c.requires.tape in
    ap length way.wrote.bytes ∙ length_at _ _ _

pub write_content-returns : goal.write_content-returns
write_content-returns t c f h = rest-done (c.loop-p.invariant.1 f h) c.loop-p-test.false

pub write_element-view-v-requires : goal.write_element-view-v-requires
write_element-view-v-requires t c =
    let here : Front c.args.doc.now.src.now c.args.doc.now.tape.now c.args.p (next_at c.args.doc.now.tape.now c.args.p) = front c.requires.2.tape c.requires.0 in
    here.held

pub write_element-put_open-inside-requires : goal.write_element-put_open-inside-requires
write_element-put_open-inside-requires t c =
    let here : Front c.args.doc.now.src.now c.args.doc.now.tape.now c.args.p (next_at c.args.doc.now.tape.now c.args.p) = front c.requires.2.tape c.requires.0 in
    rw (c.part-name.ensures, c.view-v.ensures) (omega (arith, here.within, length-slice (start_in (head_at c.args.doc.now.tape.now c.args.p)) (end_in (head_at c.args.doc.now.tape.now c.args.p)) c.args.doc.now.src.now here.within))

pub write_element-part-name-requires : goal.write_element-part-name-requires
write_element-part-name-requires t c =
    let here : Front c.args.doc.now.src.now c.args.doc.now.tape.now c.args.p (next_at c.args.doc.now.tape.now c.args.p) = front c.requires.2.tape c.requires.0 in
    rw c.view-v.ensures (omega arith, here.within)

pub write_element-overflow_add-p : goal.write_element-overflow_add-p
write_element-overflow_add-p t c =
    let here : Front c.args.doc.now.src.now c.args.doc.now.tape.now c.args.p (next_at c.args.doc.now.tape.now c.args.p) = front c.requires.2.tape c.requires.0 in
    omega (arith, here.held)

pub write_element-is_run-requires : goal.write_element-is_run-requires
write_element-is_run-requires t c =
    let here : Front c.args.doc.now.src.now c.args.doc.now.tape.now c.args.p (next_at c.args.doc.now.tape.now c.args.p) = front c.requires.2.tape c.requires.0 in
    let s = here in
    let n = tape-room c.requires.2.tape (omega (arith, s.held)) in
    rw c.view-v.ensures (omega (arith, s.forward), λ l. omega arith)

pub write_element-overflow_add-p-then-is_run : goal.write_element-overflow_add-p-then-is_run
write_element-overflow_add-p-then-is_run t c =
    let here : Front c.args.doc.now.src.now c.args.doc.now.tape.now c.args.p (next_at c.args.doc.now.tape.now c.args.p) = front c.requires.2.tape c.requires.0 in
    omega (arith, here.held)

pub write_element-view-w-requires : goal.write_element-view-w-requires
write_element-view-w-requires t c =
    let inside : Fit c.args.doc.now.src.now c.args.doc.now.tape.now (c.args.p + 1) (next_at c.args.doc.now.tape.now c.args.p) c.put_open-inside.result = inner-fit c.requires.2 (inner-node c.requires.2.tape c.requires.0 c.requires.1) (rw (c.part-name.ensures, c.view-v.ensures) at c.put_open-inside.ensures) in
    let run : OneRun c.args.doc.now.src.now c.args.doc.now.tape.now (c.args.p + 1) (next_at c.args.doc.now.tape.now c.args.p) = one-run (inside).tape (sym (rw c.view-v.ensures at c.is_run.ensures) ∙ c.if-is_run.true) in
    run.node.held

pub write_element-put_text-after-requires : goal.write_element-put_text-after-requires
write_element-put_text-after-requires t c =
    let inside : Fit c.args.doc.now.src.now c.args.doc.now.tape.now (c.args.p + 1) (next_at c.args.doc.now.tape.now c.args.p) c.put_open-inside.result = inner-fit c.requires.2 (inner-node c.requires.2.tape c.requires.0 c.requires.1) (rw (c.part-name.ensures, c.view-v.ensures) at c.put_open-inside.ensures) in
    let run : OneRun c.args.doc.now.src.now c.args.doc.now.tape.now (c.args.p + 1) (next_at c.args.doc.now.tape.now c.args.p) = one-run (inside).tape (sym (rw c.view-v.ensures at c.is_run.ensures) ∙ c.if-is_run.true) in
    rw (c.part.ensures, c.view-w.ensures) (omega (arith, run.node.within, inside.room, length-slice (start_in (head_at c.args.doc.now.tape.now (c.args.p + 1))) (end_in (head_at c.args.doc.now.tape.now (c.args.p + 1))) c.args.doc.now.src.now run.node.within))

pub write_element-part-requires : goal.write_element-part-requires
write_element-part-requires t c =
    let inside : Fit c.args.doc.now.src.now c.args.doc.now.tape.now (c.args.p + 1) (next_at c.args.doc.now.tape.now c.args.p) c.put_open-inside.result = inner-fit c.requires.2 (inner-node c.requires.2.tape c.requires.0 c.requires.1) (rw (c.part-name.ensures, c.view-v.ensures) at c.put_open-inside.ensures) in
    let run : OneRun c.args.doc.now.src.now c.args.doc.now.tape.now (c.args.p + 1) (next_at c.args.doc.now.tape.now c.args.p) = one-run (inside).tape (sym (rw c.view-v.ensures at c.is_run.ensures) ∙ c.if-is_run.true) in
    rw c.view-w.ensures (omega arith, run.node.within)

pub write_element-put_close-requires : goal.write_element-put_close-requires
write_element-put_close-requires t c =
    let here : Front c.args.doc.now.src.now c.args.doc.now.tape.now c.args.p (next_at c.args.doc.now.tape.now c.args.p) = front c.requires.2.tape c.requires.0 in
    let inside : Fit c.args.doc.now.src.now c.args.doc.now.tape.now (c.args.p + 1) (next_at c.args.doc.now.tape.now c.args.p) c.put_open-inside.result = inner-fit c.requires.2 (inner-node c.requires.2.tape c.requires.0 c.requires.1) (rw (c.part-name.ensures, c.view-v.ensures) at c.put_open-inside.ensures) in
    let run : OneRun c.args.doc.now.src.now c.args.doc.now.tape.now (c.args.p + 1) (next_at c.args.doc.now.tape.now c.args.p) = one-run (inside).tape (sym (rw c.view-v.ensures at c.is_run.ensures) ∙ c.if-is_run.true) in
    let g = inside in
    let k = run-writes run (rw (c.part.ensures, c.view-w.ensures) at c.put_text-after.ensures) in
    rw (c.part-name.ensures, c.view-v.ensures) (omega (arith, here.within, g.room, (k g.forest g.tape).place, length-slice (start_in (head_at c.args.doc.now.tape.now c.args.p)) (end_in (head_at c.args.doc.now.tape.now c.args.p)) c.args.doc.now.src.now here.within))

pub write_element-returns-then-is_run : goal.write_element-returns-then-is_run
write_element-returns-then-is_run t c f h =
    let inside : Fit c.args.doc.now.src.now c.args.doc.now.tape.now (c.args.p + 1) (next_at c.args.doc.now.tape.now c.args.p) c.put_open-inside.result = inner-fit c.requires.2 (inner-node c.requires.2.tape c.requires.0 c.requires.1) (rw (c.part-name.ensures, c.view-v.ensures) at c.put_open-inside.ensures) in
    let run : OneRun c.args.doc.now.src.now c.args.doc.now.tape.now (c.args.p + 1) (next_at c.args.doc.now.tape.now c.args.p) = one-run (inside).tape (sym (rw c.view-v.ensures at c.is_run.ensures) ∙ c.if-is_run.true) in
    let v = c.view-v.ensures in
    let i = inner-node h c.requires.0 c.requires.1 in
    let k = run-writes run (rw (c.part.ensures, c.view-w.ensures) at c.put_text-after.ensures) in
    rw i.written (wrote_then (wrote_then (rw (c.part-name.ensures, v) at c.put_open-inside.ensures) (k i.kids i.tape)) (rw (c.part-name.ensures, v) at c.put_close.ensures))

pub write_element-overflow_add-p-2 : goal.write_element-overflow_add-p-2
write_element-overflow_add-p-2 t c =
    let here : Front c.args.doc.now.src.now c.args.doc.now.tape.now c.args.p (next_at c.args.doc.now.tape.now c.args.p) = front c.requires.2.tape c.requires.0 in
    omega (arith, here.held)

pub write_element-write_content-close-requires : goal.write_element-write_content-close-requires
write_element-write_content-close-requires t c =
    let inside : Fit c.args.doc.now.src.now c.args.doc.now.tape.now (c.args.p + 1) (next_at c.args.doc.now.tape.now c.args.p) c.put_open-inside.result = inner-fit c.requires.2 (inner-node c.requires.2.tape c.requires.0 c.requires.1) (rw (c.part-name.ensures, c.view-v.ensures) at c.put_open-inside.ensures) in
    rw c.view-v.ensures (omega (arith, c.decreases, c.requires.0), inside)

pub write_element-put_close-requires-2 : goal.write_element-put_close-requires-2
write_element-put_close-requires-2 t c =
    let here : Front c.args.doc.now.src.now c.args.doc.now.tape.now c.args.p (next_at c.args.doc.now.tape.now c.args.p) = front c.requires.2.tape c.requires.0 in
    let inside : Fit c.args.doc.now.src.now c.args.doc.now.tape.now (c.args.p + 1) (next_at c.args.doc.now.tape.now c.args.p) c.put_open-inside.result = inner-fit c.requires.2 (inner-node c.requires.2.tape c.requires.0 c.requires.1) (rw (c.part-name.ensures, c.view-v.ensures) at c.put_open-inside.ensures) in
    let v = c.view-v.ensures in
    let g = inside in
    let k = rw v at c.write_content-close.ensures in
    rw (c.part-name.ensures, v) (omega (arith, here.within, g.room, (k g.forest g.tape).place, length-slice (start_in (head_at c.args.doc.now.tape.now c.args.p)) (end_in (head_at c.args.doc.now.tape.now c.args.p)) c.args.doc.now.src.now here.within))

pub write_element-returns : goal.write_element-returns
write_element-returns t c f h = let v = c.view-v.ensures in
    let i = inner-node h c.requires.0 c.requires.1 in
    let k = rw v at c.write_content-close.ensures in
    rw i.written (wrote_then (wrote_then (rw (c.part-name.ensures, v) at c.put_open-inside.ensures) (k i.kids i.tape)) (rw (c.part-name.ensures, v) at c.put_close-2.ensures))
