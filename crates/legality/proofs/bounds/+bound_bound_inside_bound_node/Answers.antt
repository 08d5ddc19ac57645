-- `legality::bounds::bound`, `bound_inside` and `bound_node` meet their contracts: the nodes inside one are fewer. The loop's invariant
-- (`Gone`): what a version has of the nodes passed. Assumes nothing.
use Prim.Native.Nat.{ℕ}
use Rattle.std.proofs.lemmas.List.{length-take}
use Rattle.std.proofs.lemmas.Slice.{between_is}
use native.Mathlib.Omega.{arith}
use mathlib.Core.Path.{◌≡◌, refl, sym, ◌∙◌}
use Rattle.std.proofs.lemmas.Option.{IfSome_then}
use Rattle.xml.specs.Tape.{head_at, next_at}
use Rattle.xml.specs.TapeLaws.{Front, OneRun, front, one-run, tape-le}
use Rattle.versions.specs.Rendered.{valid-inside}
use Rattle.legality.specs.Going.{text-short, name-length}
use Rattle.legality.specs.Bounds.{Most, text-most, run-most, element-most, timed-most, node-held, gone-start, gone-front, gone-next, gone-plain, gone-content, gone-done}
use Prim.Native.Nat.{◌+◌, ◌-◌, ◌%◌}
use Rattle.legality.proofs.bounds.+bound_bound_inside_bound_node.Goals as goal

pub bound-loop-p-init : goal.bound-loop-p-init
bound-loop-p-init t c = gone-start c.requires.0

pub bound-view-v-requires : goal.bound-view-v-requires
bound-view-v-requires t c = (gone-front c.loop-p.invariant c.loop-p-test.true).held

pub bound-bound_node-requires : goal.bound-bound_node-requires
bound-bound_node-requires t c = let w = gone-front c.loop-p.invariant c.loop-p-test.true in (omega (arith, c.decreases, w.forward, w.inside, tape-le c.loop-p.invariant.before), (w.forward, gone-next c.loop-p.invariant c.loop-p-test.true, omega (arith, w.inside, c.requires.1)))

pub bound-is_content-requires : goal.bound-is_content-requires
bound-is_content-requires t c = let w = gone-front c.loop-p.invariant c.loop-p-test.true in (w.held, w.forward, node-held (gone-next c.loop-p.invariant c.loop-p-test.true).tape)

pub bound-loop-p-smaller-then-is_content : goal.bound-loop-p-smaller-then-is_content
bound-loop-p-smaller-then-is_content t c = let w = gone-front c.loop-p.invariant c.loop-p-test.true in rw c.view-v.ensures (omega (arith, w.forward, w.inside))

pub bound-loop-p-preserved-then-is_content : goal.bound-loop-p-preserved-then-is_content
bound-loop-p-preserved-then-is_content t c = rw c.view-v.ensures (gone-content c.loop-p.invariant c.loop-p-test.true c.in_ok-node.ensures (λ f x. sym (c.is_content.ensures c.args.doc.now.src.now f x) ∙ c.if-is_content.true) c.max-most_nodes.ensures c.max-most_bytes.ensures)

pub bound-overflow_add-nodes : goal.bound-overflow_add-nodes
bound-overflow_add-nodes t c = let w = gone-front c.loop-p.invariant c.loop-p-test.true in omega (arith, c.loop-p.invariant.few, c.in_ok-node.ensures.few, c.requires.1, w.inside, w.forward, tape-le c.loop-p.invariant.before)

pub bound-overflow_add-bytes : goal.bound-overflow_add-bytes
bound-overflow_add-bytes t c = let w = gone-front c.loop-p.invariant c.loop-p-test.true in omega (arith, c.loop-p.invariant.short, c.in_ok-node.ensures.short, c.requires.1, w.inside, w.forward, tape-le c.loop-p.invariant.before)

pub bound-loop-p-smaller : goal.bound-loop-p-smaller
bound-loop-p-smaller t c = let w = gone-front c.loop-p.invariant c.loop-p-test.true in rw c.view-v.ensures (omega (arith, w.forward, w.inside))

pub bound-loop-p-preserved : goal.bound-loop-p-preserved
bound-loop-p-preserved t c = rw c.view-v.ensures (gone-plain c.loop-p.invariant c.loop-p-test.true c.in_ok-node.ensures (λ f x. sym (c.is_content.ensures c.args.doc.now.src.now f x) ∙ c.if-is_content.false))

pub bound-overflow_add-result : goal.bound-overflow_add-result
bound-overflow_add-result t c = omega (arith, c.loop-p.invariant.few, c.requires.1, tape-le c.loop-p.invariant.after)

pub bound-overflow_add-result-2 : goal.bound-overflow_add-result-2
bound-overflow_add-result-2 t c = omega (arith, c.loop-p.invariant.short, c.requires.1, tape-le c.loop-p.invariant.after)

pub bound-returns : goal.bound-returns
bound-returns t c = gone-done c.loop-p.invariant c.loop-p-test.false

pub bound_inside-is_run-requires : goal.bound_inside-is_run-requires
bound_inside-is_run-requires t c = let x = c.requires.0.tape in (tape-le x, λ l. (front x l).held)

pub bound_inside-view-v-requires : goal.bound_inside-view-v-requires
bound_inside-view-v-requires t c =
    let inside-run : OneRun c.args.doc.now.src.now c.args.doc.now.tape.now c.args.lo c.args.hi = one-run c.requires.0.tape (sym c.is_run.ensures ∙ c.if-is_run.true) in
    inside-run.node.held

pub bound_inside-slice_bounds-text_len-end : goal.bound_inside-slice_bounds-text_len-end
bound_inside-slice_bounds-text_len-end t c =
    let inside-run : OneRun c.args.doc.now.src.now c.args.doc.now.tape.now c.args.lo c.args.hi = one-run c.requires.0.tape (sym c.is_run.ensures ∙ c.if-is_run.true) in
    rw c.view-v.ensures inside-run.node.within

pub bound_inside-text_len-requires : goal.bound_inside-text_len-requires
bound_inside-text_len-requires t c =
    let inside-run : OneRun c.args.doc.now.src.now c.args.doc.now.tape.now c.args.lo c.args.hi = one-run c.requires.0.tape (sym c.is_run.ensures ∙ c.if-is_run.true) in
    rw c.view-v.ensures (omega (arith, length-take {A = ℕ}, inside-run.node.within))

pub bound_inside-overflow_cast-result : goal.bound_inside-overflow_cast-result
bound_inside-overflow_cast-result t c =
    let inside-run : OneRun c.args.doc.now.src.now c.args.doc.now.tape.now c.args.lo c.args.hi = one-run c.requires.0.tape (sym c.is_run.ensures ∙ c.if-is_run.true) in
    let e = rw c.view-v.ensures at (simp between_is at c.text_len.ensures) in omega (arith, e, text-short inside-run.node)

pub bound_inside-returns-then-is_run : goal.bound_inside-returns-then-is_run
bound_inside-returns-then-is_run t c =
    let inside-run : OneRun c.args.doc.now.src.now c.args.doc.now.tape.now c.args.lo c.args.hi = one-run c.requires.0.tape (sym c.is_run.ensures ∙ c.if-is_run.true) in
    run-most inside-run (rw c.view-v.ensures at (simp between_is at c.text_len.ensures))

pub bound_inside-bound-requires : goal.bound_inside-bound-requires
bound_inside-bound-requires t c = (omega (arith, c.decreases), c.requires)

pub bound_inside-returns : goal.bound_inside-returns
bound_inside-returns t c = c.bound.ensures

pub bound_node-view-v-requires : goal.bound_node-view-v-requires
bound_node-view-v-requires t c =
    let node-front : Front c.args.doc.now.src.now c.args.doc.now.tape.now c.args.p (next_at c.args.doc.now.tape.now c.args.p) = front c.requires.1.tape c.requires.0 in
    node-front.held

pub bound_node-text_len-requires : goal.bound_node-text_len-requires
bound_node-text_len-requires t c =
    let node-front : Front c.args.doc.now.src.now c.args.doc.now.tape.now c.args.p (next_at c.args.doc.now.tape.now c.args.p) = front c.requires.1.tape c.requires.0 in
    rw c.view-v.ensures (omega (arith, length-take {A = ℕ}, node-front.within))

pub bound_node-overflow_cast-result : goal.bound_node-overflow_cast-result
bound_node-overflow_cast-result t c =
    let node-front : Front c.args.doc.now.src.now c.args.doc.now.tape.now c.args.p (next_at c.args.doc.now.tape.now c.args.p) = front c.requires.1.tape c.requires.0 in
    let e = rw c.view-v.ensures at (simp between_is at c.text_len.ensures) in omega (arith, e, text-short node-front)

pub bound_node-returns-then-v-eq0 : goal.bound_node-returns-then-v-eq0
bound_node-returns-then-v-eq0 t c =
    let node-front : Front c.args.doc.now.src.now c.args.doc.now.tape.now c.args.p (next_at c.args.doc.now.tape.now c.args.p) = front c.requires.1.tape c.requires.0 in
    text-most node-front (rw c.view-v.ensures at c.if-v-eq0.true) (rw c.view-v.ensures at (simp between_is at c.text_len.ensures))

pub bound_node-overflow_add-p : goal.bound_node-overflow_add-p
bound_node-overflow_add-p t c =
    let node-front : Front c.args.doc.now.src.now c.args.doc.now.tape.now c.args.p (next_at c.args.doc.now.tape.now c.args.p) = front c.requires.1.tape c.requires.0 in
    omega (arith, node-front.held)

pub bound_node-bound_inside-requires : goal.bound_node-bound_inside-requires
bound_node-bound_inside-requires t c =
    let node-front : Front c.args.doc.now.src.now c.args.doc.now.tape.now c.args.p (next_at c.args.doc.now.tape.now c.args.p) = front c.requires.1.tape c.requires.0 in
    rw c.view-v.ensures (omega (arith, c.decreases, node-front.forward), (valid-inside c.requires.1 c.requires.0 (rw c.view-v.ensures at c.if-v-eq0.false), c.requires.2))

pub bound_node-returns-then-v-eq2 : goal.bound_node-returns-then-v-eq2
bound_node-returns-then-v-eq2 t c =
    let node-front : Front c.args.doc.now.src.now c.args.doc.now.tape.now c.args.p (next_at c.args.doc.now.tape.now c.args.p) = front c.requires.1.tape c.requires.0 in
    IfSome_then c.bound_inside.result (rw c.view-v.ensures at c.bound_inside.ensures) (λ s m. timed-most node-front (rw c.view-v.ensures at c.if-v-eq2.true) m)

pub bound_node-overflow_add-p-2 : goal.bound_node-overflow_add-p-2
bound_node-overflow_add-p-2 t c =
    let node-front : Front c.args.doc.now.src.now c.args.doc.now.tape.now c.args.p (next_at c.args.doc.now.tape.now c.args.p) = front c.requires.1.tape c.requires.0 in
    omega (arith, node-front.held)

pub bound_node-overflow_sub-left : goal.bound_node-overflow_sub-left
bound_node-overflow_sub-left t c = omega (arith, c.if-left-eq0.false)

pub bound_node-bound_inside-requires-2 : goal.bound_node-bound_inside-requires-2
bound_node-bound_inside-requires-2 t c =
    let node-front : Front c.args.doc.now.src.now c.args.doc.now.tape.now c.args.p (next_at c.args.doc.now.tape.now c.args.p) = front c.requires.1.tape c.requires.0 in
    rw c.view-v.ensures (omega (arith, c.decreases, node-front.forward), (valid-inside c.requires.1 c.requires.0 (rw c.view-v.ensures at c.if-v-eq0.false), c.requires.2))

pub bound_node-overflow_sub-name : goal.bound_node-overflow_sub-name
bound_node-overflow_sub-name t c = rw c.view-v.ensures (omega arith)

pub bound_node-overflow_cast-name : goal.bound_node-overflow_cast-name
bound_node-overflow_cast-name t c = rw c.view-v.ensures (omega arith)

pub bound_node-overflow_add-result : goal.bound_node-overflow_add-result
bound_node-overflow_add-result t c =
    let element-inside : Most c.args.doc.now.src.now c.args.doc.now.tape.now (c.args.p + 1) (next_at c.args.doc.now.tape.now c.args.p) (c.args.left - 1) c.in_ok-inside.inside.nodes c.in_ok-inside.inside.bytes = rw c.view-v.ensures at c.in_ok-inside.ensures in
    let m = element-inside in omega (arith, m.few, c.requires.2)

pub bound_node-overflow_mul-result : goal.bound_node-overflow_mul-result
bound_node-overflow_mul-result t c = rw c.view-v.ensures (omega arith)

pub bound_node-overflow_add-result-2 : goal.bound_node-overflow_add-result-2
bound_node-overflow_add-result-2 t c = rw c.view-v.ensures (omega arith)

pub bound_node-overflow_add-result-3 : goal.bound_node-overflow_add-result-3
bound_node-overflow_add-result-3 t c =
    let element-inside : Most c.args.doc.now.src.now c.args.doc.now.tape.now (c.args.p + 1) (next_at c.args.doc.now.tape.now c.args.p) (c.args.left - 1) c.in_ok-inside.inside.nodes c.in_ok-inside.inside.bytes = rw c.view-v.ensures at c.in_ok-inside.ensures in
    let node-front : Front c.args.doc.now.src.now c.args.doc.now.tape.now c.args.p (next_at c.args.doc.now.tape.now c.args.p) = front c.requires.1.tape c.requires.0 in
    let m = element-inside in rw c.view-v.ensures (omega (arith, m.short, c.requires.2, node-front.forward))

pub bound_node-returns : goal.bound_node-returns
bound_node-returns t c =
    let element-inside : Most c.args.doc.now.src.now c.args.doc.now.tape.now (c.args.p + 1) (next_at c.args.doc.now.tape.now c.args.p) (c.args.left - 1) c.in_ok-inside.inside.nodes c.in_ok-inside.inside.bytes = rw c.view-v.ensures at c.in_ok-inside.ensures in
    let node-front : Front c.args.doc.now.src.now c.args.doc.now.tape.now c.args.p (next_at c.args.doc.now.tape.now c.args.p) = front c.requires.1.tape c.requires.0 in
    let element-kind : head_at c.args.doc.now.tape.now c.args.p % 4 ≡ 1 = omega (arith, (node-front).kind, rw c.view-v.ensures at c.if-v-eq0.false, rw c.view-v.ensures at c.if-v-eq2.false) in
    element-most node-front element-kind c.if-left-eq0.false element-inside refl (rw c.view-v.ensures (omega (arith, name-length node-front)))
