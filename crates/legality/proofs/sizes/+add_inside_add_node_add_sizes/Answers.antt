-- `legality::sizes::add_inside`, `add_node` and `add_sizes` meet their contracts: the nodes inside one are fewer. The loop's invariant
-- (`Going`): the nodes passed are measured. Assumes nothing.
use Rattle.std.proofs.lemmas.List.{length-take}
use Rattle.std.proofs.lemmas.Slice.{between_is}
use native.Mathlib.Omega.{arith}
use mathlib.Core.Path.{◌≡◌, refl, sym, ◌∙◌}
use Rattle.xml.specs.Forest.{Forest}
use Rattle.xml.specs.Tape.{Tape, head_at, next_at}
use Rattle.xml.specs.SignLaws.{plain-length}
use Rattle.xml.specs.TapeLaws.{Front, OneRun, bytes_at, front, one-run, tape-le}
use Rattle.legality.specs.Measured.{owned, Room, Measured, one-most, text-measured, run-measured, deep-measured, element-stopped, element-measured, twice-measured, timed-stopped, timed-measured}
use Rattle.legality.specs.Going.{Going, going_start, going-room, going-fits, going_more, going-stopped, going_done, text-short, name-length, inner-text, inner_room, inner-own, inner-cells}
use Prim.Native.Nat.{ℕ, ◌+◌, ◌%◌}
use Rattle.legality.proofs.sizes.+add_inside_add_node_add_sizes.Goals as goal

pub add_inside-is_run-requires : goal.add_inside-is_run-requires
add_inside-is_run-requires t c = let x = c.requires.tape in (tape-le x, λ l. (front x l).held)

pub add_inside-view-v-requires : goal.add_inside-view-v-requires
add_inside-view-v-requires t c =
    let inside-run : OneRun c.args.doc.now.src.now c.args.doc.now.tape.now c.args.lo c.args.hi = one-run c.requires.tape (sym c.is_run.ensures ∙ c.if-is_run.true) in
    inside-run.node.held

pub add_inside-plain_end-requires : goal.add_inside-plain_end-requires
add_inside-plain_end-requires t c =
    let inside-run : OneRun c.args.doc.now.src.now c.args.doc.now.tape.now c.args.lo c.args.hi = one-run c.requires.tape (sym c.is_run.ensures ∙ c.if-is_run.true) in
    rw c.view-v.ensures (omega arith, inside-run.node.within)

pub add_inside-overflow_sub-result : goal.add_inside-overflow_sub-result
add_inside-overflow_sub-result t c = rw c.view-v.ensures (omega arith)

pub add_inside-overflow_cast-result : goal.add_inside-overflow_cast-result
add_inside-overflow_cast-result t c = rw c.view-v.ensures (omega arith)

pub add_inside-returns-then-plain_end-v : goal.add_inside-returns-then-plain_end-v
add_inside-returns-then-plain_end-v t c f x =
    let inside-run : OneRun c.args.doc.now.src.now c.args.doc.now.tape.now c.args.lo c.args.hi = one-run c.requires.tape (sym c.is_run.ensures ∙ c.if-is_run.true) in
    let v = c.view-v in
    let o = inside-run in
    (run-measured x o (rw v.ensures (rw v.ensures at (plain-length c.args.doc.now.src.now v.result.start v.result.end (rw v.ensures (omega arith)) (rw v.ensures o.node.within) (sym c.if-plain_end-v.true ∙ c.plain_end.ensures)))))

pub add_inside-add_sizes-requires : goal.add_inside-add_sizes-requires
add_inside-add_sizes-requires t c = (omega (arith, c.decreases), c.requires)

pub add_inside-returns : goal.add_inside-returns
add_inside-returns t c f x = c.add_sizes.ensures f x

pub add_node-view-v-requires : goal.add_node-view-v-requires
add_node-view-v-requires t c =
    let node-front : Front c.args.doc.now.src.now c.args.doc.now.tape.now c.args.p (next_at c.args.doc.now.tape.now c.args.p) = front c.requires.2.tape c.requires.0 in
    node-front.held

pub add_node-returns-then-left-eq0 : goal.add_node-returns-then-left-eq0
add_node-returns-then-left-eq0 t c f x = deep-measured x c.requires.0 (rw c.view-v.ensures at c.if-v-eq1.true) c.if-left-eq0.true refl

pub add_node-overflow_add-p : goal.add_node-overflow_add-p
add_node-overflow_add-p t c =
    let node-front : Front c.args.doc.now.src.now c.args.doc.now.tape.now c.args.p (next_at c.args.doc.now.tape.now c.args.p) = front c.requires.2.tape c.requires.0 in
    omega (arith, node-front.held)

pub add_node-overflow_sub-left : goal.add_node-overflow_sub-left
add_node-overflow_sub-left t c = omega arith

pub add_node-add_inside-requires : goal.add_node-add_inside-requires
add_node-add_inside-requires t c =
    let inner : Room c.args.doc.now.src.now c.args.doc.now.tape.now (c.args.p + 1) (next_at c.args.doc.now.tape.now c.args.p) c.args.nodes.now c.args.bytes.now = inner_room c.requires.2 c.requires.0 c.requires.1 in
    rw c.view-v.ensures (omega (arith, c.decreases, c.requires.0), inner)

pub add_node-returns-in_err-inside : goal.add_node-returns-in_err-inside
add_node-returns-in_err-inside t c f x = rw c.from_residual.ensures (element-stopped x c.requires.0 (rw c.view-v.ensures at c.if-v-eq1.true) c.if-left-eq0.false (rw c.view-v.ensures at c.in_err-inside.ensures) refl)

pub add_node-overflow_sub-name : goal.add_node-overflow_sub-name
add_node-overflow_sub-name t c = rw c.view-v.ensures (omega arith)

pub add_node-overflow_cast-name : goal.add_node-overflow_cast-name
add_node-overflow_cast-name t c = rw c.view-v.ensures (omega arith)

pub add_node-one-requires : goal.add_node-one-requires
add_node-one-requires t c =
    let node-front : Front c.args.doc.now.src.now c.args.doc.now.tape.now c.args.p (next_at c.args.doc.now.tape.now c.args.p) = front c.requires.2.tape c.requires.0 in
    rw c.view-v.ensures (omega arith, node-front.within)

pub add_node-overflow_add-result : goal.add_node-overflow_add-result
add_node-overflow_add-result t c =
    let inner : Room c.args.doc.now.src.now c.args.doc.now.tape.now (c.args.p + 1) (next_at c.args.doc.now.tape.now c.args.p) c.args.nodes.now c.args.bytes.now = inner_room c.requires.2 c.requires.0 c.requires.1 in
    omega (arith, rw c.view-v.ensures at c.one.ensures, one-most (bytes_at c.args.doc.now.src.now c.args.doc.now.tape.now c.args.p), inner-own inner (rw c.view-v.ensures at c.in_ok-inside.ensures) refl)

pub add_node-overflow_mul-result : goal.add_node-overflow_mul-result
add_node-overflow_mul-result t c = rw c.view-v.ensures (omega arith)

pub add_node-overflow_add-result-then-v-eq1 : goal.add_node-overflow_add-result-then-v-eq1
add_node-overflow_add-result-then-v-eq1 t c = rw c.view-v.ensures (omega arith)

pub add_node-overflow_add-result-then-v-eq1-2 : goal.add_node-overflow_add-result-then-v-eq1-2
add_node-overflow_add-result-then-v-eq1-2 t c =
    let inner : Room c.args.doc.now.src.now c.args.doc.now.tape.now (c.args.p + 1) (next_at c.args.doc.now.tape.now c.args.p) c.args.nodes.now c.args.bytes.now = inner_room c.requires.2 c.requires.0 c.requires.1 in
    rw c.view-v.ensures (omega (arith, inner-own inner (rw c.view-v.ensures at c.in_ok-inside.ensures) refl))

pub add_node-returns-then-v-eq1 : goal.add_node-returns-then-v-eq1
add_node-returns-then-v-eq1 t c f x =
    let node-front : Front c.args.doc.now.src.now c.args.doc.now.tape.now c.args.p (next_at c.args.doc.now.tape.now c.args.p) = front c.requires.2.tape c.requires.0 in
    (element-measured x c.requires.0 (rw c.view-v.ensures at c.if-v-eq1.true) c.if-left-eq0.false (rw c.view-v.ensures at c.in_ok-inside.ensures) refl (rw c.view-v.ensures at c.one.ensures) refl (rw (c.view-v.ensures, name-length node-front) refl))

pub add_node-returns-then-timed : goal.add_node-returns-then-timed
add_node-returns-then-timed t c f x =
    let node-front : Front c.args.doc.now.src.now c.args.doc.now.tape.now c.args.p (next_at c.args.doc.now.tape.now c.args.p) = front c.requires.2.tape c.requires.0 in
    let timed-kind : head_at c.args.doc.now.tape.now c.args.p % 4 ≡ 2 = omega (arith, (node-front).kind, c.requires.1, rw c.view-v.ensures at c.if-v-eq1.false) in
    twice-measured x c.requires.0 timed-kind c.if-timed.true refl

pub add_node-overflow_add-p-2 : goal.add_node-overflow_add-p-2
add_node-overflow_add-p-2 t c =
    let node-front : Front c.args.doc.now.src.now c.args.doc.now.tape.now c.args.p (next_at c.args.doc.now.tape.now c.args.p) = front c.requires.2.tape c.requires.0 in
    omega (arith, node-front.held)

pub add_node-add_inside-requires-2 : goal.add_node-add_inside-requires-2
add_node-add_inside-requires-2 t c =
    let inner : Room c.args.doc.now.src.now c.args.doc.now.tape.now (c.args.p + 1) (next_at c.args.doc.now.tape.now c.args.p) c.args.nodes.now c.args.bytes.now = inner_room c.requires.2 c.requires.0 c.requires.1 in
    rw c.view-v.ensures (omega (arith, c.decreases, c.requires.0), inner)

pub add_node-returns-in_err-own : goal.add_node-returns-in_err-own
add_node-returns-in_err-own t c f x =
    let node-front : Front c.args.doc.now.src.now c.args.doc.now.tape.now c.args.p (next_at c.args.doc.now.tape.now c.args.p) = front c.requires.2.tape c.requires.0 in
    let timed-kind : head_at c.args.doc.now.tape.now c.args.p % 4 ≡ 2 = omega (arith, (node-front).kind, c.requires.1, rw c.view-v.ensures at c.if-v-eq1.false) in
    rw c.from_residual-in_err-own.ensures (timed-stopped x c.requires.0 timed-kind c.if-timed.false (rw c.view-v.ensures at c.in_err-own.ensures) refl)

pub add_node-raise-requires : goal.add_node-raise-requires
add_node-raise-requires t c =
    let inner : Room c.args.doc.now.src.now c.args.doc.now.tape.now (c.args.p + 1) (next_at c.args.doc.now.tape.now c.args.p) c.args.nodes.now c.args.bytes.now = inner_room c.requires.2 c.requires.0 c.requires.1 in
    let node-front : Front c.args.doc.now.src.now c.args.doc.now.tape.now c.args.p (next_at c.args.doc.now.tape.now c.args.p) = front c.requires.2.tape c.requires.0 in
    let timed-kind : head_at c.args.doc.now.tape.now c.args.p % 4 ≡ 2 = omega (arith, (node-front).kind, c.requires.1, rw c.view-v.ensures at c.if-v-eq1.false) in
    let z = inner-cells inner (rw c.view-v.ensures at c.in_ok-own.ensures) refl in
    rw c.view-v.ensures (inner-text c.requires.2 c.requires.0 timed-kind, omega arith, node-front.within, z.0, z.1)

pub add_node-returns : goal.add_node-returns
add_node-returns t c f x =
    let node-front : Front c.args.doc.now.src.now c.args.doc.now.tape.now c.args.p (next_at c.args.doc.now.tape.now c.args.p) = front c.requires.2.tape c.requires.0 in
    let timed-kind : head_at c.args.doc.now.tape.now c.args.p % 4 ≡ 2 = omega (arith, (node-front).kind, c.requires.1, rw c.view-v.ensures at c.if-v-eq1.false) in
    let g = rw c.view-v.ensures at c.raise.ensures in
    (timed-measured x c.requires.0 timed-kind c.if-timed.false (inner-text c.requires.2 c.requires.0 timed-kind) (rw c.view-v.ensures at c.in_ok-own.ensures) refl g.0 g.1)

pub add_sizes-loop-p-init : goal.add_sizes-loop-p-init
add_sizes-loop-p-init t c = (omega arith, λ f x. going_start x)

pub add_sizes-view-v-requires : goal.add_sizes-view-v-requires
add_sizes-view-v-requires t c =
    let way : Going c.args.doc.now.src.now c.args.doc.now.tape.now c.args.lo c.loop-p.p c.args.hi c.args.left c.args.timed c.requires.forest c.loop-p.n c.loop-p.b c.args.nodes.now c.loop-p.nodes c.args.bytes.now c.loop-p.bytes = c.loop-p.invariant.1 c.requires.forest c.requires.tape in
    let sizes-front : Front c.args.doc.now.src.now c.args.doc.now.tape.now c.loop-p.p c.args.hi = front (way).after c.loop-p-test.true in
    sizes-front.held

pub add_sizes-slice_bounds-text_len-end : goal.add_sizes-slice_bounds-text_len-end
add_sizes-slice_bounds-text_len-end t c =
    let way : Going c.args.doc.now.src.now c.args.doc.now.tape.now c.args.lo c.loop-p.p c.args.hi c.args.left c.args.timed c.requires.forest c.loop-p.n c.loop-p.b c.args.nodes.now c.loop-p.nodes c.args.bytes.now c.loop-p.bytes = c.loop-p.invariant.1 c.requires.forest c.requires.tape in
    let sizes-front : Front c.args.doc.now.src.now c.args.doc.now.tape.now c.loop-p.p c.args.hi = front (way).after c.loop-p-test.true in
    rw c.view-v.ensures sizes-front.within

pub add_sizes-text_len-requires : goal.add_sizes-text_len-requires
add_sizes-text_len-requires t c =
    let way : Going c.args.doc.now.src.now c.args.doc.now.tape.now c.args.lo c.loop-p.p c.args.hi c.args.left c.args.timed c.requires.forest c.loop-p.n c.loop-p.b c.args.nodes.now c.loop-p.nodes c.args.bytes.now c.loop-p.bytes = c.loop-p.invariant.1 c.requires.forest c.requires.tape in
    let sizes-front : Front c.args.doc.now.src.now c.args.doc.now.tape.now c.loop-p.p c.args.hi = front (way).after c.loop-p-test.true in
    rw c.view-v.ensures (omega (arith, length-take {A = ℕ}, sizes-front.within))

pub add_sizes-overflow_cast-b : goal.add_sizes-overflow_cast-b
add_sizes-overflow_cast-b t c =
    let way : Going c.args.doc.now.src.now c.args.doc.now.tape.now c.args.lo c.loop-p.p c.args.hi c.args.left c.args.timed c.requires.forest c.loop-p.n c.loop-p.b c.args.nodes.now c.loop-p.nodes c.args.bytes.now c.loop-p.bytes = c.loop-p.invariant.1 c.requires.forest c.requires.tape in
    let sizes-front : Front c.args.doc.now.src.now c.args.doc.now.tape.now c.loop-p.p c.args.hi = front (way).after c.loop-p-test.true in
    omega (arith, rw c.view-v.ensures at (simp between_is at c.text_len.ensures), text-short sizes-front)

pub add_sizes-overflow_add-b : goal.add_sizes-overflow_add-b
add_sizes-overflow_add-b t c =
    let way : Going c.args.doc.now.src.now c.args.doc.now.tape.now c.args.lo c.loop-p.p c.args.hi c.args.left c.args.timed c.requires.forest c.loop-p.n c.loop-p.b c.args.nodes.now c.loop-p.nodes c.args.bytes.now c.loop-p.bytes = c.loop-p.invariant.1 c.requires.forest c.requires.tape in
    let sizes-front : Front c.args.doc.now.src.now c.args.doc.now.tape.now c.loop-p.p c.args.hi = front (way).after c.loop-p-test.true in
    let sizes_run : (f : Forest) → Tape c.args.doc.now.src.now c.args.doc.now.tape.now c.loop-p.p (next_at c.args.doc.now.tape.now c.loop-p.p) f → Measured c.args.left c.args.timed f (owned 1 c.text_len.result) c.loop-p.nodes c.loop-p.nodes c.loop-p.bytes c.loop-p.bytes = λ f x. text-measured x (sizes-front).forward (rw c.view-v.ensures at c.if-v-eq0.true) (rw c.view-v.ensures at (simp between_is at c.text_len.ensures)) in
    omega (arith, going-fits c.requires way c.loop-p-test.true sizes_run refl)

pub add_sizes-overflow_add-n : goal.add_sizes-overflow_add-n
add_sizes-overflow_add-n t c =
    let way : Going c.args.doc.now.src.now c.args.doc.now.tape.now c.args.lo c.loop-p.p c.args.hi c.args.left c.args.timed c.requires.forest c.loop-p.n c.loop-p.b c.args.nodes.now c.loop-p.nodes c.args.bytes.now c.loop-p.bytes = c.loop-p.invariant.1 c.requires.forest c.requires.tape in
    let sizes-front : Front c.args.doc.now.src.now c.args.doc.now.tape.now c.loop-p.p c.args.hi = front (way).after c.loop-p-test.true in
    let sizes_run : (f : Forest) → Tape c.args.doc.now.src.now c.args.doc.now.tape.now c.loop-p.p (next_at c.args.doc.now.tape.now c.loop-p.p) f → Measured c.args.left c.args.timed f (owned 1 c.text_len.result) c.loop-p.nodes c.loop-p.nodes c.loop-p.bytes c.loop-p.bytes = λ f x. text-measured x (sizes-front).forward (rw c.view-v.ensures at c.if-v-eq0.true) (rw c.view-v.ensures at (simp between_is at c.text_len.ensures)) in
    omega (arith, going-fits c.requires way c.loop-p-test.true sizes_run refl)

pub add_sizes-loop-p-smaller-then-v-eq0 : goal.add_sizes-loop-p-smaller-then-v-eq0
add_sizes-loop-p-smaller-then-v-eq0 t c =
    let way : Going c.args.doc.now.src.now c.args.doc.now.tape.now c.args.lo c.loop-p.p c.args.hi c.args.left c.args.timed c.requires.forest c.loop-p.n c.loop-p.b c.args.nodes.now c.loop-p.nodes c.args.bytes.now c.loop-p.bytes = c.loop-p.invariant.1 c.requires.forest c.requires.tape in
    let sizes-front : Front c.args.doc.now.src.now c.args.doc.now.tape.now c.loop-p.p c.args.hi = front (way).after c.loop-p-test.true in
    let s = sizes-front in rw c.view-v.ensures (omega (arith, s.forward, s.inside))

pub add_sizes-loop-p-preserved-then-v-eq0 : goal.add_sizes-loop-p-preserved-then-v-eq0
add_sizes-loop-p-preserved-then-v-eq0 t c =
    let way : Going c.args.doc.now.src.now c.args.doc.now.tape.now c.args.lo c.loop-p.p c.args.hi c.args.left c.args.timed c.requires.forest c.loop-p.n c.loop-p.b c.args.nodes.now c.loop-p.nodes c.args.bytes.now c.loop-p.bytes = c.loop-p.invariant.1 c.requires.forest c.requires.tape in
    let sizes-front : Front c.args.doc.now.src.now c.args.doc.now.tape.now c.loop-p.p c.args.hi = front (way).after c.loop-p-test.true in
    let sizes_run : (f : Forest) → Tape c.args.doc.now.src.now c.args.doc.now.tape.now c.loop-p.p (next_at c.args.doc.now.tape.now c.loop-p.p) f → Measured c.args.left c.args.timed f (owned 1 c.text_len.result) c.loop-p.nodes c.loop-p.nodes c.loop-p.bytes c.loop-p.bytes = λ f x. text-measured x (sizes-front).forward (rw c.view-v.ensures at c.if-v-eq0.true) (rw c.view-v.ensures at (simp between_is at c.text_len.ensures)) in
    let s = sizes-front in rw c.view-v.ensures (omega (arith, s.forward, c.loop-p.invariant.0), λ f x. going_more (c.loop-p.invariant.1 f x) c.loop-p-test.true sizes_run refl refl refl)

pub add_sizes-add_node-requires : goal.add_sizes-add_node-requires
add_sizes-add_node-requires t c =
    let way : Going c.args.doc.now.src.now c.args.doc.now.tape.now c.args.lo c.loop-p.p c.args.hi c.args.left c.args.timed c.requires.forest c.loop-p.n c.loop-p.b c.args.nodes.now c.loop-p.nodes c.args.bytes.now c.loop-p.bytes = c.loop-p.invariant.1 c.requires.forest c.requires.tape in
    let sizes-front : Front c.args.doc.now.src.now c.args.doc.now.tape.now c.loop-p.p c.args.hi = front (way).after c.loop-p-test.true in
    let s = sizes-front in (omega (arith, s.forward, s.inside, c.loop-p.invariant.0, c.decreases), (s.forward, rw c.view-v.ensures at c.if-v-eq0.false, going-room c.requires way c.loop-p-test.true))

pub add_sizes-shape_of-nodes-in_err-node : goal.add_sizes-shape_of-nodes-in_err-node
add_sizes-shape_of-nodes-in_err-node t c =
    let way : Going c.args.doc.now.src.now c.args.doc.now.tape.now c.args.lo c.loop-p.p c.args.hi c.args.left c.args.timed c.requires.forest c.loop-p.n c.loop-p.b c.args.nodes.now c.loop-p.nodes c.args.bytes.now c.loop-p.bytes = c.loop-p.invariant.1 c.requires.forest c.requires.tape in
    (going-stopped way c.loop-p-test.true c.in_err-node.ensures refl).nodes-kept

pub add_sizes-shape_of-bytes-in_err-node : goal.add_sizes-shape_of-bytes-in_err-node
add_sizes-shape_of-bytes-in_err-node t c =
    let way : Going c.args.doc.now.src.now c.args.doc.now.tape.now c.args.lo c.loop-p.p c.args.hi c.args.left c.args.timed c.requires.forest c.loop-p.n c.loop-p.b c.args.nodes.now c.loop-p.nodes c.args.bytes.now c.loop-p.bytes = c.loop-p.invariant.1 c.requires.forest c.requires.tape in
    (going-stopped way c.loop-p-test.true c.in_err-node.ensures refl).bytes-kept

pub add_sizes-returns-in_err-node : goal.add_sizes-returns-in_err-node
add_sizes-returns-in_err-node t c f x = rw c.from_residual.ensures (going-stopped (c.loop-p.invariant.1 f x) c.loop-p-test.true c.in_err-node.ensures refl)

pub add_sizes-overflow_add-n-in-loop-p : goal.add_sizes-overflow_add-n-in-loop-p
add_sizes-overflow_add-n-in-loop-p t c =
    let way : Going c.args.doc.now.src.now c.args.doc.now.tape.now c.args.lo c.loop-p.p c.args.hi c.args.left c.args.timed c.requires.forest c.loop-p.n c.loop-p.b c.args.nodes.now c.loop-p.nodes c.args.bytes.now c.loop-p.bytes = c.loop-p.invariant.1 c.requires.forest c.requires.tape in
    omega (arith, going-fits c.requires way c.loop-p-test.true c.in_ok-node.ensures refl)

pub add_sizes-overflow_add-b-in-loop-p : goal.add_sizes-overflow_add-b-in-loop-p
add_sizes-overflow_add-b-in-loop-p t c =
    let way : Going c.args.doc.now.src.now c.args.doc.now.tape.now c.args.lo c.loop-p.p c.args.hi c.args.left c.args.timed c.requires.forest c.loop-p.n c.loop-p.b c.args.nodes.now c.loop-p.nodes c.args.bytes.now c.loop-p.bytes = c.loop-p.invariant.1 c.requires.forest c.requires.tape in
    omega (arith, going-fits c.requires way c.loop-p-test.true c.in_ok-node.ensures refl)

pub add_sizes-loop-p-smaller : goal.add_sizes-loop-p-smaller
add_sizes-loop-p-smaller t c =
    let way : Going c.args.doc.now.src.now c.args.doc.now.tape.now c.args.lo c.loop-p.p c.args.hi c.args.left c.args.timed c.requires.forest c.loop-p.n c.loop-p.b c.args.nodes.now c.loop-p.nodes c.args.bytes.now c.loop-p.bytes = c.loop-p.invariant.1 c.requires.forest c.requires.tape in
    let sizes-front : Front c.args.doc.now.src.now c.args.doc.now.tape.now c.loop-p.p c.args.hi = front (way).after c.loop-p-test.true in
    let s = sizes-front in rw c.view-v.ensures (omega (arith, s.forward, s.inside))

pub add_sizes-loop-p-preserved : goal.add_sizes-loop-p-preserved
add_sizes-loop-p-preserved t c =
    let way : Going c.args.doc.now.src.now c.args.doc.now.tape.now c.args.lo c.loop-p.p c.args.hi c.args.left c.args.timed c.requires.forest c.loop-p.n c.loop-p.b c.args.nodes.now c.loop-p.nodes c.args.bytes.now c.loop-p.bytes = c.loop-p.invariant.1 c.requires.forest c.requires.tape in
    let sizes-front : Front c.args.doc.now.src.now c.args.doc.now.tape.now c.loop-p.p c.args.hi = front (way).after c.loop-p-test.true in
    let s = sizes-front in rw c.view-v.ensures (omega (arith, s.forward, c.loop-p.invariant.0), λ f x. going_more (c.loop-p.invariant.1 f x) c.loop-p-test.true c.in_ok-node.ensures refl refl refl)

pub add_sizes-shape_of-nodes : goal.add_sizes-shape_of-nodes
add_sizes-shape_of-nodes t c =
    let way : Going c.args.doc.now.src.now c.args.doc.now.tape.now c.args.lo c.loop-p.p c.args.hi c.args.left c.args.timed c.requires.forest c.loop-p.n c.loop-p.b c.args.nodes.now c.loop-p.nodes c.args.bytes.now c.loop-p.bytes = c.loop-p.invariant.1 c.requires.forest c.requires.tape in
    way.sums.in-nodes.count

pub add_sizes-shape_of-bytes : goal.add_sizes-shape_of-bytes
add_sizes-shape_of-bytes t c =
    let way : Going c.args.doc.now.src.now c.args.doc.now.tape.now c.args.lo c.loop-p.p c.args.hi c.args.left c.args.timed c.requires.forest c.loop-p.n c.loop-p.b c.args.nodes.now c.loop-p.nodes c.args.bytes.now c.loop-p.bytes = c.loop-p.invariant.1 c.requires.forest c.requires.tape in
    way.sums.in_bytes.count

pub add_sizes-returns : goal.add_sizes-returns
add_sizes-returns t c f x = (going_done (c.loop-p.invariant.1 f x) c.loop-p-test.false)
