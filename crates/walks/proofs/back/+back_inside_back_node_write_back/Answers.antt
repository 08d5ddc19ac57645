-- `walks::back::write_back`, `back_inside` and `back_node` meet their contracts: siblings by a loop, depth by recursion; a node
-- is written into the part of the output that it is lent. Each node has 163,840 bytes of room.
use Rattle.std.proofs.lemmas.List.{length-take}
use Rattle.std.proofs.lemmas.Slice.{between_is}
use Prim.Native.Nat.{ℕ, ◌%◌, ◌≤◌}
use native.Mathlib.Omega.{arith}
use mathlib.Core.Path.{◌≡◌, sym, ◌∙◌}
use Rattle.xml.specs.OverLaws.{lent_back}
use Rattle.xml.specs.Tape.{head_at, next_at, start_in, end_in}
use Rattle.xml.specs.TapeLaws.{Front, OneRun, bytes_at, front, one-run, tape-le}
use Rattle.timestamp.specs.Times.{Times}
use Rattle.timestamp.specs.Set.{cut_at}
use Rattle.timestamp.specs.Change.{Changes}
use Rattle.versions.specs.Walk.{times_in}
use Rattle.versions.specs.Rendered.{node-part, open-room, going-none, going_more, going_done, going-length, text-renders, element-renders}
use Rattle.versions.specs.Timely.{timely-first, timely-rest, timely-inside, timely-set}
use Rattle.versions.specs.BackText.{back-pieces, back-length}
use Rattle.walks.specs.Trimmed.{cut_text, Trimmed, trimmed-short, trimmed-room, cut-trimmed, cut-times, node-dropped, node-bare, node-wrapped}
use Rattle.walks.proofs.back.+back_inside_back_node_write_back.Goals as goal

pub back_inside-is_run-requires : goal.back_inside-is_run-requires
back_inside-is_run-requires t c = let x = c.requires.0.tape in (tape-le x, λ l. (front x l).held)

pub back_inside-view-v-requires : goal.back_inside-view-v-requires
back_inside-view-v-requires t c =
    let inside-run : OneRun c.args.doc.now.src.now c.args.doc.now.tape.now c.args.lo c.args.hi = one-run c.requires.0.tape (sym c.is_run.ensures ∙ c.if-is_run.true) in
    inside-run.node.held

pub back_inside-put_text-requires : goal.back_inside-put_text-requires
back_inside-put_text-requires t c =
    let inside-run : OneRun c.args.doc.now.src.now c.args.doc.now.tape.now c.args.lo c.args.hi = one-run c.requires.0.tape (sym c.is_run.ensures ∙ c.if-is_run.true) in
    rw c.view-v.ensures (omega (arith, length-take {A = ℕ}, inside-run.node.within, c.requires.3))

pub back_inside-slice_bounds-put_text-end : goal.back_inside-slice_bounds-put_text-end
back_inside-slice_bounds-put_text-end t c =
    let inside-run : OneRun c.args.doc.now.src.now c.args.doc.now.tape.now c.args.lo c.args.hi = one-run c.requires.0.tape (sym c.is_run.ensures ∙ c.if-is_run.true) in
    rw c.view-v.ensures inside-run.node.within

pub back_inside-returns-then-is_run : goal.back_inside-returns-then-is_run
back_inside-returns-then-is_run t c f h =
    let inside-run : OneRun c.args.doc.now.src.now c.args.doc.now.tape.now c.args.lo c.args.hi = one-run c.requires.0.tape (sym c.is_run.ensures ∙ c.if-is_run.true) in
    let o = inside-run in
    text-renders (back-pieces c.args.i _) o.node.forward o.run (rw c.view-v.ensures at (simp between_is at c.put_text.ensures)) f (rw o.ends at h)

pub back_inside-write_back-requires : goal.back_inside-write_back-requires
back_inside-write_back-requires t c = (omega (arith, c.decreases), c.requires)

pub back_inside-returns : goal.back_inside-returns
back_inside-returns t c = c.write_back.ensures

pub back_node-view-v-requires : goal.back_node-view-v-requires
back_node-view-v-requires t c =
    let here : Front c.args.doc.now.src.now c.args.doc.now.tape.now c.args.p (next_at c.args.doc.now.tape.now c.args.p) = front c.requires.1.tape c.requires.0 in
    here.held

pub back_node-put_text-requires : goal.back_node-put_text-requires
back_node-put_text-requires t c =
    let here : Front c.args.doc.now.src.now c.args.doc.now.tape.now c.args.p (next_at c.args.doc.now.tape.now c.args.p) = front c.requires.1.tape c.requires.0 in
    rw c.view-v.ensures (omega (arith, length-take {A = ℕ}, here.within, c.requires.4))

pub back_node-returns-then-v-eq0 : goal.back_node-returns-then-v-eq0
back_node-returns-then-v-eq0 t c =
    let around : Times = times_in c.args.i (cut_text c.args.doc.now.src.now c.args.a c.args.around.to c.args.around.tail c.args.i) in
    let v = c.view-v.ensures in
    text-renders (back-pieces c.args.i around) c.requires.0 (rw v at c.if-v-eq0.true) (rw v at (simp between_is at c.put_text.ensures))

pub back_node-put_open-inside-requires : goal.back_node-put_open-inside-requires
back_node-put_open-inside-requires t c =
    let here : Front c.args.doc.now.src.now c.args.doc.now.tape.now c.args.p (next_at c.args.doc.now.tape.now c.args.p) = front c.requires.1.tape c.requires.0 in
    rw c.view-v.ensures (omega (arith, length-take {A = ℕ}, here.within, c.requires.4))

pub back_node-overflow_add-p : goal.back_node-overflow_add-p
back_node-overflow_add-p t c =
    let here : Front c.args.doc.now.src.now c.args.doc.now.tape.now c.args.p (next_at c.args.doc.now.tape.now c.args.p) = front c.requires.1.tape c.requires.0 in
    omega (arith, here.held)

pub back_node-back_inside-close-requires : goal.back_node-back_inside-close-requires
back_node-back_inside-close-requires t c =
    let here : Front c.args.doc.now.src.now c.args.doc.now.tape.now c.args.p (next_at c.args.doc.now.tape.now c.args.p) = front c.requires.1.tape c.requires.0 in
    let v = c.view-v.ensures in
    let k = rw v at c.if-v-eq0.false in
    let o = open-room here (rw v at (simp between_is at c.put_open-inside.ensures)) in
    rw v (omega (arith, c.decreases, c.requires.0), (timely-inside c.requires.1 c.requires.0 k, c.requires.2, c.requires.3, omega (arith, c.requires.4, c.requires.0, o)))

pub back_node-put_close-requires : goal.back_node-put_close-requires
back_node-put_close-requires t c =
    let around : Times = times_in c.args.i (cut_text c.args.doc.now.src.now c.args.a c.args.around.to c.args.around.tail c.args.i) in
    let here : Front c.args.doc.now.src.now c.args.doc.now.tape.now c.args.p (next_at c.args.doc.now.tape.now c.args.p) = front c.requires.1.tape c.requires.0 in
    let v = c.view-v.ensures in
    let x = timely-inside c.requires.1 c.requires.0 (rw v at c.if-v-eq0.false) in
    let k = rw v at c.back_inside-close.ensures in
    let o = open-room here (rw v at (simp between_is at c.put_open-inside.ensures)) in
    rw v (omega (arith, length-take {A = ℕ}, here.within, (k x.forest x.tape).place, back-length c.args.i around x, c.requires.4, c.requires.0, o))

pub back_node-returns-then-v-eq1 : goal.back_node-returns-then-v-eq1
back_node-returns-then-v-eq1 t c =
    let around : Times = times_in c.args.i (cut_text c.args.doc.now.src.now c.args.a c.args.around.to c.args.around.tail c.args.i) in
    let v = c.view-v.ensures in
    element-renders (back-pieces c.args.i around) c.requires.0 (rw v at c.if-v-eq1.true) (rw v at (simp between_is at c.put_open-inside.ensures)) (rw v at c.back_inside-close.ensures) (rw v at (simp between_is at c.put_close.ensures))

pub back_node-slice_bounds-cut_at-count : goal.back_node-slice_bounds-cut_at-count
back_node-slice_bounds-cut_at-count t c = rw c.view-v.ensures (omega arith)

pub back_node-slice_bounds-cut_at-start : goal.back_node-slice_bounds-cut_at-start
back_node-slice_bounds-cut_at-start t c = rw c.view-v.ensures (omega arith)

pub back_node-slice_bounds-cut_at-end : goal.back_node-slice_bounds-cut_at-end
back_node-slice_bounds-cut_at-end t c =
    let here : Front c.args.doc.now.src.now c.args.doc.now.tape.now c.args.p (next_at c.args.doc.now.tape.now c.args.p) = front c.requires.1.tape c.requires.0 in
    rw c.view-v.ensures (omega (arith, here.within))

pub back_node-cut_at-cut-requires : goal.back_node-cut_at-cut-requires
back_node-cut_at-cut-requires t c =
    let here : Front c.args.doc.now.src.now c.args.doc.now.tape.now c.args.p (next_at c.args.doc.now.tape.now c.args.p) = front c.requires.1.tape c.requires.0 in
    let times : head_at c.args.doc.now.tape.now c.args.p % 4 ≡ 2 = let v = c.view-v.ensures in omega (arith, rw v at c.if-v-eq0.false, rw v at c.if-v-eq1.false, (here).kind) in
    rw (c.view-v.ensures, node-part c.args.doc.now.src.now c.args.doc.now.tape.now c.args.p) (timely-set c.requires.1 c.requires.0 times)

pub back_node-returns-then-is_empty : goal.back_node-returns-then-is_empty
back_node-returns-then-is_empty t c =
    let low : c.args.i ≤ 999 = omega (arith, c.requires.1.reach, c.requires.1.small) in
    let inner : Times = times_in c.args.i (cut_text c.args.doc.now.src.now (start_in (head_at c.args.doc.now.tape.now c.args.p)) c.cut_at-cut.result.to c.cut_at-cut.result.tail c.args.i) in
    let changed : Changes (bytes_at c.args.doc.now.src.now c.args.doc.now.tape.now c.args.p) (cut_at c.args.i) c.args.i c.cut_at-cut.result.to c.cut_at-cut.result.tail = rw (c.view-v.ensures, node-part c.args.doc.now.src.now c.args.doc.now.tape.now c.args.p) at c.cut_at-cut.ensures in
    let here : Front c.args.doc.now.src.now c.args.doc.now.tape.now c.args.p (next_at c.args.doc.now.tape.now c.args.p) = front c.requires.1.tape c.requires.0 in
    let times : head_at c.args.doc.now.tape.now c.args.p % 4 ≡ 2 = let v = c.view-v.ensures in omega (arith, rw v at c.if-v-eq0.false, rw v at c.if-v-eq1.false, (here).kind) in
    let same-times : inner ≡ times_in c.args.i (bytes_at c.args.doc.now.src.now c.args.doc.now.tape.now c.args.p) = cut-times c.args.i c.args.doc.now.src.now (start_in (head_at c.args.doc.now.tape.now c.args.p)) (end_in (head_at c.args.doc.now.tape.now c.args.p)) c.cut_at-cut.result.to c.cut_at-cut.result.tail (omega arith) (here).within (timely-set c.requires.1 c.requires.0 (times)) (changed) (low) in
    let trim : Trimmed c.args.i c.args.doc.now.src.now (start_in (head_at c.args.doc.now.tape.now c.args.p)) c.cut_at-cut.result.to c.cut_at-cut.result.tail = cut-trimmed c.args.i c.args.doc.now.src.now (start_in (head_at c.args.doc.now.tape.now c.args.p)) (end_in (head_at c.args.doc.now.tape.now c.args.p)) c.cut_at-cut.result.to c.cut_at-cut.result.tail (omega arith) (here).within (timely-set c.requires.1 c.requires.0 (times)) (changed) in
    node-dropped c.args.doc.now.tape.now c.args.p low c.requires.2 c.requires.3 trim c.requires.0 times same-times (sym c.is_empty.ensures ∙ c.if-is_empty.true)

pub back_node-same_cut-requires : goal.back_node-same_cut-requires
back_node-same_cut-requires t c =
    let low : c.args.i ≤ 999 = omega (arith, c.requires.1.reach, c.requires.1.small) in
    let changed : Changes (bytes_at c.args.doc.now.src.now c.args.doc.now.tape.now c.args.p) (cut_at c.args.i) c.args.i c.cut_at-cut.result.to c.cut_at-cut.result.tail = rw (c.view-v.ensures, node-part c.args.doc.now.src.now c.args.doc.now.tape.now c.args.p) at c.cut_at-cut.ensures in
    let here : Front c.args.doc.now.src.now c.args.doc.now.tape.now c.args.p (next_at c.args.doc.now.tape.now c.args.p) = front c.requires.1.tape c.requires.0 in
    let times : head_at c.args.doc.now.tape.now c.args.p % 4 ≡ 2 = let v = c.view-v.ensures in omega (arith, rw v at c.if-v-eq0.false, rw v at c.if-v-eq1.false, (here).kind) in
    let trim : Trimmed c.args.i c.args.doc.now.src.now (start_in (head_at c.args.doc.now.tape.now c.args.p)) c.cut_at-cut.result.to c.cut_at-cut.result.tail = cut-trimmed c.args.i c.args.doc.now.src.now (start_in (head_at c.args.doc.now.tape.now c.args.p)) (end_in (head_at c.args.doc.now.tape.now c.args.p)) c.cut_at-cut.result.to c.cut_at-cut.result.tail (omega arith) (here).within (timely-set c.requires.1 c.requires.0 (times)) (changed) in
    rw c.view-v.ensures (c.requires.2, low, c.requires.3, trim)

pub back_node-overflow_add-p-then-same_cut : goal.back_node-overflow_add-p-then-same_cut
back_node-overflow_add-p-then-same_cut t c =
    let here : Front c.args.doc.now.src.now c.args.doc.now.tape.now c.args.p (next_at c.args.doc.now.tape.now c.args.p) = front c.requires.1.tape c.requires.0 in
    omega (arith, here.held)

pub back_node-back_inside-requires : goal.back_node-back_inside-requires
back_node-back_inside-requires t c =
    let changed : Changes (bytes_at c.args.doc.now.src.now c.args.doc.now.tape.now c.args.p) (cut_at c.args.i) c.args.i c.cut_at-cut.result.to c.cut_at-cut.result.tail = rw (c.view-v.ensures, node-part c.args.doc.now.src.now c.args.doc.now.tape.now c.args.p) at c.cut_at-cut.ensures in
    let here : Front c.args.doc.now.src.now c.args.doc.now.tape.now c.args.p (next_at c.args.doc.now.tape.now c.args.p) = front c.requires.1.tape c.requires.0 in
    let times : head_at c.args.doc.now.tape.now c.args.p % 4 ≡ 2 = let v = c.view-v.ensures in omega (arith, rw v at c.if-v-eq0.false, rw v at c.if-v-eq1.false, (here).kind) in
    let trim : Trimmed c.args.i c.args.doc.now.src.now (start_in (head_at c.args.doc.now.tape.now c.args.p)) c.cut_at-cut.result.to c.cut_at-cut.result.tail = cut-trimmed c.args.i c.args.doc.now.src.now (start_in (head_at c.args.doc.now.tape.now c.args.p)) (end_in (head_at c.args.doc.now.tape.now c.args.p)) c.cut_at-cut.result.to c.cut_at-cut.result.tail (omega arith) (here).within (timely-set c.requires.1 c.requires.0 (times)) (changed) in
    let v = c.view-v.ensures in
    rw v (omega (arith, c.decreases, c.requires.0), (timely-inside c.requires.1 c.requires.0 (rw v at c.if-v-eq0.false), c.requires.2, trim, omega (arith, c.requires.4, c.requires.0)))

pub back_node-returns-then-same_cut : goal.back_node-returns-then-same_cut
back_node-returns-then-same_cut t c =
    let low : c.args.i ≤ 999 = omega (arith, c.requires.1.reach, c.requires.1.small) in
    let inner : Times = times_in c.args.i (cut_text c.args.doc.now.src.now (start_in (head_at c.args.doc.now.tape.now c.args.p)) c.cut_at-cut.result.to c.cut_at-cut.result.tail c.args.i) in
    let changed : Changes (bytes_at c.args.doc.now.src.now c.args.doc.now.tape.now c.args.p) (cut_at c.args.i) c.args.i c.cut_at-cut.result.to c.cut_at-cut.result.tail = rw (c.view-v.ensures, node-part c.args.doc.now.src.now c.args.doc.now.tape.now c.args.p) at c.cut_at-cut.ensures in
    let here : Front c.args.doc.now.src.now c.args.doc.now.tape.now c.args.p (next_at c.args.doc.now.tape.now c.args.p) = front c.requires.1.tape c.requires.0 in
    let times : head_at c.args.doc.now.tape.now c.args.p % 4 ≡ 2 = let v = c.view-v.ensures in omega (arith, rw v at c.if-v-eq0.false, rw v at c.if-v-eq1.false, (here).kind) in
    let same-times : inner ≡ times_in c.args.i (bytes_at c.args.doc.now.src.now c.args.doc.now.tape.now c.args.p) = cut-times c.args.i c.args.doc.now.src.now (start_in (head_at c.args.doc.now.tape.now c.args.p)) (end_in (head_at c.args.doc.now.tape.now c.args.p)) c.cut_at-cut.result.to c.cut_at-cut.result.tail (omega arith) (here).within (timely-set c.requires.1 c.requires.0 (times)) (changed) (low) in
    let trim : Trimmed c.args.i c.args.doc.now.src.now (start_in (head_at c.args.doc.now.tape.now c.args.p)) c.cut_at-cut.result.to c.cut_at-cut.result.tail = cut-trimmed c.args.i c.args.doc.now.src.now (start_in (head_at c.args.doc.now.tape.now c.args.p)) (end_in (head_at c.args.doc.now.tape.now c.args.p)) c.cut_at-cut.result.to c.cut_at-cut.result.tail (omega arith) (here).within (timely-set c.requires.1 c.requires.0 (times)) (changed) in
    let v = c.view-v.ensures in
    node-bare c.args.doc.now.tape.now c.args.p low c.requires.2 c.requires.3 trim c.requires.0 times same-times (sym c.is_empty.ensures ∙ c.if-is_empty.false)
    (sym (rw v at c.same_cut.ensures) ∙ c.if-same_cut.true) (rw v at c.back_inside.ensures)

pub back_node-put_changed-inside-requires : goal.back_node-put_changed-inside-requires
back_node-put_changed-inside-requires t c =
    let low : c.args.i ≤ 999 = omega (arith, c.requires.1.reach, c.requires.1.small) in
    let changed : Changes (bytes_at c.args.doc.now.src.now c.args.doc.now.tape.now c.args.p) (cut_at c.args.i) c.args.i c.cut_at-cut.result.to c.cut_at-cut.result.tail = rw (c.view-v.ensures, node-part c.args.doc.now.src.now c.args.doc.now.tape.now c.args.p) at c.cut_at-cut.ensures in
    let here : Front c.args.doc.now.src.now c.args.doc.now.tape.now c.args.p (next_at c.args.doc.now.tape.now c.args.p) = front c.requires.1.tape c.requires.0 in
    let times : head_at c.args.doc.now.tape.now c.args.p % 4 ≡ 2 = let v = c.view-v.ensures in omega (arith, rw v at c.if-v-eq0.false, rw v at c.if-v-eq1.false, (here).kind) in
    let trim : Trimmed c.args.i c.args.doc.now.src.now (start_in (head_at c.args.doc.now.tape.now c.args.p)) c.cut_at-cut.result.to c.cut_at-cut.result.tail = cut-trimmed c.args.i c.args.doc.now.src.now (start_in (head_at c.args.doc.now.tape.now c.args.p)) (end_in (head_at c.args.doc.now.tape.now c.args.p)) c.cut_at-cut.result.to c.cut_at-cut.result.tail (omega arith) (here).within (timely-set c.requires.1 c.requires.0 (times)) (changed) in
    let x = trim in
    rw c.view-v.ensures (x.inside, trimmed-short x, c.requires.2, low, omega (arith, c.requires.4))

pub back_node-overflow_add-p-2 : goal.back_node-overflow_add-p-2
back_node-overflow_add-p-2 t c =
    let here : Front c.args.doc.now.src.now c.args.doc.now.tape.now c.args.p (next_at c.args.doc.now.tape.now c.args.p) = front c.requires.1.tape c.requires.0 in
    omega (arith, here.held, c.well_formed, c.ranges)

pub back_node-back_inside-close-requires-2 : goal.back_node-back_inside-close-requires-2
back_node-back_inside-close-requires-2 t c =
    let changed : Changes (bytes_at c.args.doc.now.src.now c.args.doc.now.tape.now c.args.p) (cut_at c.args.i) c.args.i c.cut_at-cut.result.to c.cut_at-cut.result.tail = rw (c.view-v.ensures, node-part c.args.doc.now.src.now c.args.doc.now.tape.now c.args.p) at c.cut_at-cut.ensures in
    let here : Front c.args.doc.now.src.now c.args.doc.now.tape.now c.args.p (next_at c.args.doc.now.tape.now c.args.p) = front c.requires.1.tape c.requires.0 in
    let times : head_at c.args.doc.now.tape.now c.args.p % 4 ≡ 2 = let v = c.view-v.ensures in omega (arith, rw v at c.if-v-eq0.false, rw v at c.if-v-eq1.false, (here).kind) in
    let trim : Trimmed c.args.i c.args.doc.now.src.now (start_in (head_at c.args.doc.now.tape.now c.args.p)) c.cut_at-cut.result.to c.cut_at-cut.result.tail = cut-trimmed c.args.i c.args.doc.now.src.now (start_in (head_at c.args.doc.now.tape.now c.args.p)) (end_in (head_at c.args.doc.now.tape.now c.args.p)) c.cut_at-cut.result.to c.cut_at-cut.result.tail (omega arith) (here).within (timely-set c.requires.1 c.requires.0 (times)) (changed) in
    let v = c.view-v.ensures in
    let o = trimmed-room trim (rw v at c.put_changed-inside.ensures) in
    rw v (omega (arith, c.decreases, c.requires.0), (timely-inside c.requires.1 c.requires.0 (rw v at c.if-v-eq0.false), c.requires.2, trim, omega (arith, c.requires.4, c.requires.0, o)))

pub back_node-slice_bounds-put_close-end-2 : goal.back_node-slice_bounds-put_close-end-2
back_node-slice_bounds-put_close-end-2 t c =
    let here : Front c.args.doc.now.src.now c.args.doc.now.tape.now c.args.p (next_at c.args.doc.now.tape.now c.args.p) = front c.requires.1.tape c.requires.0 in
    rw c.view-v.ensures here.within

pub back_node-put_close-requires-2 : goal.back_node-put_close-requires-2
back_node-put_close-requires-2 t c =
    let here : Front c.args.doc.now.src.now c.args.doc.now.tape.now c.args.p (next_at c.args.doc.now.tape.now c.args.p) = front c.requires.1.tape c.requires.0 in
    let inner : Times = times_in c.args.i (cut_text c.args.doc.now.src.now (start_in (head_at c.args.doc.now.tape.now c.args.p)) c.cut_at-cut.result.to c.cut_at-cut.result.tail c.args.i) in
    let changed : Changes (bytes_at c.args.doc.now.src.now c.args.doc.now.tape.now c.args.p) (cut_at c.args.i) c.args.i c.cut_at-cut.result.to c.cut_at-cut.result.tail = rw (c.view-v.ensures, node-part c.args.doc.now.src.now c.args.doc.now.tape.now c.args.p) at c.cut_at-cut.ensures in
    let times : head_at c.args.doc.now.tape.now c.args.p % 4 ≡ 2 = let v = c.view-v.ensures in omega (arith, length-take {A = ℕ}, rw v at c.if-v-eq0.false, rw v at c.if-v-eq1.false, (here).kind) in
    let trim : Trimmed c.args.i c.args.doc.now.src.now (start_in (head_at c.args.doc.now.tape.now c.args.p)) c.cut_at-cut.result.to c.cut_at-cut.result.tail = cut-trimmed c.args.i c.args.doc.now.src.now (start_in (head_at c.args.doc.now.tape.now c.args.p)) (end_in (head_at c.args.doc.now.tape.now c.args.p)) c.cut_at-cut.result.to c.cut_at-cut.result.tail (omega arith) (here).within (timely-set c.requires.1 c.requires.0 (times)) (changed) in
    let v = c.view-v.ensures in
    let x = timely-inside c.requires.1 c.requires.0 (rw v at c.if-v-eq0.false) in
    let k = rw v at c.back_inside-close-2.ensures in
    let o = trimmed-room trim (rw v at c.put_changed-inside.ensures) in
    rw v (omega (arith, length-take {A = ℕ}, here.within, (k x.forest x.tape).place, back-length c.args.i inner x, c.requires.4, c.requires.0, o))

pub back_node-returns : goal.back_node-returns
back_node-returns t c =
    let low : c.args.i ≤ 999 = omega (arith, c.requires.1.reach, c.requires.1.small) in
    let inner : Times = times_in c.args.i (cut_text c.args.doc.now.src.now (start_in (head_at c.args.doc.now.tape.now c.args.p)) c.cut_at-cut.result.to c.cut_at-cut.result.tail c.args.i) in
    let changed : Changes (bytes_at c.args.doc.now.src.now c.args.doc.now.tape.now c.args.p) (cut_at c.args.i) c.args.i c.cut_at-cut.result.to c.cut_at-cut.result.tail = rw (c.view-v.ensures, node-part c.args.doc.now.src.now c.args.doc.now.tape.now c.args.p) at c.cut_at-cut.ensures in
    let here : Front c.args.doc.now.src.now c.args.doc.now.tape.now c.args.p (next_at c.args.doc.now.tape.now c.args.p) = front c.requires.1.tape c.requires.0 in
    let times : head_at c.args.doc.now.tape.now c.args.p % 4 ≡ 2 = let v = c.view-v.ensures in omega (arith, rw v at c.if-v-eq0.false, rw v at c.if-v-eq1.false, (here).kind) in
    let same-times : inner ≡ times_in c.args.i (bytes_at c.args.doc.now.src.now c.args.doc.now.tape.now c.args.p) = cut-times c.args.i c.args.doc.now.src.now (start_in (head_at c.args.doc.now.tape.now c.args.p)) (end_in (head_at c.args.doc.now.tape.now c.args.p)) c.cut_at-cut.result.to c.cut_at-cut.result.tail (omega arith) (here).within (timely-set c.requires.1 c.requires.0 (times)) (changed) (low) in
    let trim : Trimmed c.args.i c.args.doc.now.src.now (start_in (head_at c.args.doc.now.tape.now c.args.p)) c.cut_at-cut.result.to c.cut_at-cut.result.tail = cut-trimmed c.args.i c.args.doc.now.src.now (start_in (head_at c.args.doc.now.tape.now c.args.p)) (end_in (head_at c.args.doc.now.tape.now c.args.p)) c.cut_at-cut.result.to c.cut_at-cut.result.tail (omega arith) (here).within (timely-set c.requires.1 c.requires.0 (times)) (changed) in
    let v = c.view-v.ensures in
    node-wrapped c.args.doc.now.tape.now c.args.p low c.requires.2 c.requires.3 trim c.requires.0 times same-times (sym c.is_empty.ensures ∙ c.if-is_empty.false)
    (sym (rw v at c.same_cut.ensures) ∙ c.if-same_cut.false) (rw v at c.put_changed-inside.ensures) (rw v at c.back_inside-close-2.ensures) (rw v at (simp between_is at c.put_close-2.ensures))

pub write_back-loop-p-init : goal.write_back-loop-p-init
write_back-loop-p-init t c = (omega arith, c.requires.0, omega arith, λ f h. going-none h)

pub write_back-slice_bounds-back_node-count : goal.write_back-slice_bounds-back_node-count
write_back-slice_bounds-back_node-count t c = omega (arith, c.least-from.ensures)

pub write_back-slice_bounds-back_node-start : goal.write_back-slice_bounds-back_node-start
write_back-slice_bounds-back_node-start t c = omega (arith, c.least-from.ensures)

pub write_back-back_node-to-requires : goal.write_back-back_node-to-requires
write_back-back_node-to-requires t c =
    let turn : Front c.args.doc.now.src.now c.args.doc.now.tape.now c.loop-p.p c.args.hi = front c.loop-p.invariant.1.tape c.loop-p-test.true in
    let s = turn in
    let j = c.loop-p.invariant in
    (omega (arith, s.forward, s.inside, j.0, c.decreases), (s.forward, timely-first j.1 c.loop-p-test.true, c.requires.1, c.requires.2, omega (arith, s.forward, s.inside, j.2, c.requires.3)))

pub write_back-overflow_add-to : goal.write_back-overflow_add-to
write_back-overflow_add-to t c =
    let held : Times = times_in c.args.i (cut_text c.args.doc.now.src.now c.args.a c.args.around.to c.args.around.tail c.args.i) in
    let turn : Front c.args.doc.now.src.now c.args.doc.now.tape.now c.loop-p.p c.args.hi = front c.loop-p.invariant.1.tape c.loop-p-test.true in
    let s = turn in
    let j = c.loop-p.invariant in
    let x = timely-first j.1 c.loop-p-test.true in
    omega (arith, s.forward, s.inside, j.2, c.requires.3, (c.back_node-to.ensures x.forest x.tape).place, back-length c.args.i held x)

pub write_back-view-p-requires : goal.write_back-view-p-requires
write_back-view-p-requires t c =
    let turn : Front c.args.doc.now.src.now c.args.doc.now.tape.now c.loop-p.p c.args.hi = front c.loop-p.invariant.1.tape c.loop-p-test.true in
    turn.held

pub write_back-loop-p-smaller : goal.write_back-loop-p-smaller
write_back-loop-p-smaller t c =
    let turn : Front c.args.doc.now.src.now c.args.doc.now.tape.now c.loop-p.p c.args.hi = front c.loop-p.invariant.1.tape c.loop-p-test.true in
    let s = turn in rw c.view-p.ensures (omega (arith, s.forward, s.inside))

pub write_back-loop-p-preserved : goal.write_back-loop-p-preserved
write_back-loop-p-preserved t c =
    let held : Times = times_in c.args.i (cut_text c.args.doc.now.src.now c.args.a c.args.around.to c.args.around.tail c.args.i) in
    let turn : Front c.args.doc.now.src.now c.args.doc.now.tape.now c.loop-p.p c.args.hi = front c.loop-p.invariant.1.tape c.loop-p-test.true in
    let s = turn in
    let j = c.loop-p.invariant in
    let x = timely-first j.1 c.loop-p-test.true in
    let w = c.back_node-to.ensures in
    rw c.view-p.ensures (omega (arith, s.forward, j.0), timely-rest j.1 c.loop-p-test.true, omega (arith, s.forward, s.inside, j.2, (w x.forest x.tape).place, back-length c.args.i held x), λ f h. going_more (back-pieces c.args.i held) (j.3 f h) c.loop-p-test.true (λ g k. lent_back c.loop-p.out c.loop-p.to c.least-from.result c.least-from.ensures (w g k)))

pub write_back-shape_of-out : goal.write_back-shape_of-out
write_back-shape_of-out t c = going-length (c.loop-p.invariant.3 c.requires.0.forest c.requires.0.tape)

pub write_back-returns : goal.write_back-returns
write_back-returns t c f h =
    let held : Times = times_in c.args.i (cut_text c.args.doc.now.src.now c.args.a c.args.around.to c.args.around.tail c.args.i) in
    going_done (back-pieces c.args.i held) (c.loop-p.invariant.3 f h) c.loop-p-test.false
