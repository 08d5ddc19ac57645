-- `keys::keyed::unkeyed_content` and `unkeyed_node` meet their contracts: the loop's answer is that of the nodes to come, and a node's is
-- that of its element's key children and of what it holds. The nodes left fall. Assumes nothing.
use native.Mathlib.Omega.{arith}
use mathlib.Core.Path.{sym, ◌∙◌}
use Rattle.xml.specs.Tape.{next_at}
use Rattle.xml.specs.TapeLaws.{bytes_at, inner-node}
use Rattle.keys.specs.Version.{◌▸◌}
use Rattle.keys.specs.Walks.{Walk, walk-front, walk-node, walk-next, walk-kids, going_start, going_more, going-found, going_done}
use Rattle.keys.specs.Strays.{keyless, keyless-end, keyless-other, keyless-under, keyless-lacking, keyless-inside, keyless-here, keyless-past}
use Prim.Native.Nat.{◌+◌}
use Rattle.keys.proofs.keyed.+unkeyed_content_unkeyed_node.Goals as goal

pub unkeyed_content-loop-p-init : goal.unkeyed_content-loop-p-init
unkeyed_content-loop-p-init t c = (omega arith, c.requires, λ K q s e f h. going_start (keyless K q) h)

pub unkeyed_content-unkeyed_node-requires : goal.unkeyed_content-unkeyed_node-requires
unkeyed_content-unkeyed_node-requires t c = let s = walk-front c.loop-p.invariant.1 c.loop-p-test.true in
    (omega (arith, s.forward, s.inside, c.loop-p.invariant.0, c.decreases), (s.forward, walk-node c.loop-p.invariant.1 c.loop-p-test.true))

pub unkeyed_content-returns-then-unkeyed_node : goal.unkeyed_content-returns-then-unkeyed_node
unkeyed_content-returns-then-unkeyed_node t c K q s e f h = sym (going-found (c.loop-p.invariant.2 K q s e f h) c.loop-p-test.true (λ x y k. keyless-here K q x y (sym (c.unkeyed_node.ensures K q s e x k) ∙ c.if-unkeyed_node.true)))

pub unkeyed_content-view-p-requires : goal.unkeyed_content-view-p-requires
unkeyed_content-view-p-requires t c = (walk-front c.loop-p.invariant.1 c.loop-p-test.true).held

pub unkeyed_content-loop-p-smaller : goal.unkeyed_content-loop-p-smaller
unkeyed_content-loop-p-smaller t c = let s = walk-front c.loop-p.invariant.1 c.loop-p-test.true in rw c.view-p.ensures (omega (arith, s.forward, s.inside))

pub unkeyed_content-loop-p-preserved : goal.unkeyed_content-loop-p-preserved
unkeyed_content-loop-p-preserved t c = let l = c.loop-p-test.true in
    let s = walk-front c.loop-p.invariant.1 l in
    rw c.view-p.ensures (
      omega (arith, s.forward, c.loop-p.invariant.0),
      walk-next c.loop-p.invariant.1 l,
      λ K q t e f h. going_more (keyless K q) (c.loop-p.invariant.2 K q t e f h) l (λ x y k. keyless-past K q x y (sym (c.unkeyed_node.ensures K q t e x k) ∙ c.if-unkeyed_node.false)),
    )

pub unkeyed_content-returns : goal.unkeyed_content-returns
unkeyed_content-returns t c K q s e f h = sym (going_done (c.loop-p.invariant.2 K q s e f h) c.loop-p-test.false ∙ keyless-end K q)

pub unkeyed_node-view-v-requires : goal.unkeyed_node-view-v-requires
unkeyed_node-view-v-requires t c = (walk-front c.requires.1 c.requires.0).held

pub unkeyed_node-returns-then-v-ne1 : goal.unkeyed_node-returns-then-v-ne1
unkeyed_node-returns-then-v-ne1 t c K q s e f h = sym (keyless-other K q h (rw c.view-v.ensures at c.if-v-ne1.true))

pub unkeyed_node-child-below-requires : goal.unkeyed_node-child-below-requires
unkeyed_node-child-below-requires t c = c.requires.1.placed

pub unkeyed_node-part-requires : goal.unkeyed_node-part-requires
unkeyed_node-part-requires t c = rw c.view-v.ensures (omega arith, (walk-front c.requires.1 c.requires.0).within)

pub unkeyed_node-overflow_add-p : goal.unkeyed_node-overflow_add-p
unkeyed_node-overflow_add-p t c = omega (arith, (walk-front c.requires.1 c.requires.0).held)

pub unkeyed_node-lacks_key-requires : goal.unkeyed_node-lacks_key-requires
unkeyed_node-lacks_key-requires t c =
    let below : Walk c.args.keys.now.text.now c.args.keys.now.table.now c.args.keys.now.paths c.child-below.result c.args.doc.now.src.now c.args.doc.now.tape.now (c.args.p + 1) (next_at c.args.doc.now.tape.now c.args.p) = let v = c.view-v.ensures in let k = rw v at c.if-v-ne1.false in walk-kids c.requires.1 c.requires.0 (λ z. omega arith) (rw (c.part.ensures, v) at c.child-below.ensures) in
    rw c.view-v.ensures below

pub unkeyed_node-returns-then-lacks_key : goal.unkeyed_node-returns-then-lacks_key
unkeyed_node-returns-then-lacks_key t c K q s e f h = let v = c.view-v.ensures in
    let k = rw v at c.if-v-ne1.false in
    let i = inner-node h c.requires.0 (λ z. omega arith) in
    let d = rw (c.part.ensures, v) at c.child-below.ensures in
    let o = rw v at c.lacks_key.ensures in
    sym (keyless-lacking K q (i.element k) (sym (o K (q ▸ bytes_at c.args.doc.now.src.now c.args.doc.now.tape.now c.args.p) s (sym (d K q s e)) i.kids i.tape) ∙ c.if-lacks_key.true))

pub unkeyed_node-is_above-requires : goal.unkeyed_node-is_above-requires
unkeyed_node-is_above-requires t c = c.requires.1.placed.table.held

pub unkeyed_node-returns-then-not-is_above : goal.unkeyed_node-returns-then-not-is_above
unkeyed_node-returns-then-not-is_above t c K q s e f h = let v = c.view-v.ensures in
    let k = rw v at c.if-v-ne1.false in
    let i = inner-node h c.requires.0 (λ z. omega arith) in
    let d = rw (c.part.ensures, v) at c.child-below.ensures in
    let o = rw v at c.lacks_key.ensures in
    let n = q ▸ bytes_at c.args.doc.now.src.now c.args.doc.now.tape.now c.args.p in
    sym (keyless-inside K q (i.element k) (sym (o K n s (sym (d K q s e)) i.kids i.tape) ∙ c.if-lacks_key.false) ∙ keyless-under K n i.kids (sym (c.is_above.ensures c.args.keys.now.text.now K n s (sym (d K q s e))) ∙ c.if-not-is_above.true))

pub unkeyed_node-overflow_add-p-2 : goal.unkeyed_node-overflow_add-p-2
unkeyed_node-overflow_add-p-2 t c = omega (arith, (walk-front c.requires.1 c.requires.0).held, c.well_formed)

pub unkeyed_node-unkeyed_content-requires : goal.unkeyed_node-unkeyed_content-requires
unkeyed_node-unkeyed_content-requires t c =
    let below : Walk c.args.keys.now.text.now c.args.keys.now.table.now c.args.keys.now.paths c.child-below.result c.args.doc.now.src.now c.args.doc.now.tape.now (c.args.p + 1) (next_at c.args.doc.now.tape.now c.args.p) = let v = c.view-v.ensures in let k = rw v at c.if-v-ne1.false in walk-kids c.requires.1 c.requires.0 (λ z. omega arith) (rw (c.part.ensures, v) at c.child-below.ensures) in
    rw c.view-v.ensures (omega (arith, c.decreases, c.requires.0), below)

pub unkeyed_node-returns : goal.unkeyed_node-returns
unkeyed_node-returns t c K q s e f h = let v = c.view-v.ensures in
    let k = rw v at c.if-v-ne1.false in
    let i = inner-node h c.requires.0 (λ z. omega arith) in
    let d = rw (c.part.ensures, v) at c.child-below.ensures in
    let o = rw v at c.lacks_key.ensures in
    let r = rw v at c.unkeyed_content.ensures in
    let n = q ▸ bytes_at c.args.doc.now.src.now c.args.doc.now.tape.now c.args.p in
    r K n s (sym (d K q s e)) i.kids i.tape ∙ sym (keyless-inside K q (i.element k) (sym (o K n s (sym (d K q s e)) i.kids i.tape) ∙ c.if-lacks_key.false))
