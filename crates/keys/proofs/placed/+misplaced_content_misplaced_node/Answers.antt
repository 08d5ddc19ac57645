-- `keys::placed::misplaced_content` and `misplaced_node` meet their contracts: the loop's answer is that of the nodes to come, and a node's is
-- that of its element's name and of what it holds. The nodes left fall. Assumes nothing.
use native.Mathlib.Omega.{arith}
use mathlib.Core.Path.{ap, sym, ◌∙◌}
use mathlib.Core.Bool.{not}
use Rattle.xml.specs.Read.{unescape}
use Rattle.xml.specs.Tape.{next_at}
use Rattle.xml.specs.TapeLaws.{bytes_at, text-node, inner-node}
use Rattle.keys.specs.Version.{◌▸◌}
use Rattle.keys.specs.Walks.{Walk, walk-front, walk-node, walk-next, walk-kids, going_start, going_more, going-found, going_done}
use Rattle.keys.specs.Strays.{astray, astray-end, astray-under, astray-run, astray-other, astray-strange, astray-inside, astray-here, astray-past}
use Prim.Native.Nat.{◌+◌}
use Rattle.keys.proofs.placed.+misplaced_content_misplaced_node.Goals as goal

pub misplaced_content-loop-p-init : goal.misplaced_content-loop-p-init
misplaced_content-loop-p-init t c = (omega arith, c.requires, λ K q s e f h. going_start (astray K q) h)

pub misplaced_content-misplaced_node-requires : goal.misplaced_content-misplaced_node-requires
misplaced_content-misplaced_node-requires t c = let s = walk-front c.loop-p.invariant.1 c.loop-p-test.true in
    (omega (arith, s.forward, s.inside, c.loop-p.invariant.0, c.decreases), (s.forward, walk-node c.loop-p.invariant.1 c.loop-p-test.true))

pub misplaced_content-returns-then-misplaced_node : goal.misplaced_content-returns-then-misplaced_node
misplaced_content-returns-then-misplaced_node t c K q s e f h = sym (going-found (c.loop-p.invariant.2 K q s e f h) c.loop-p-test.true (λ x y k. astray-here K q x y (sym (c.misplaced_node.ensures K q s e x k) ∙ c.if-misplaced_node.true)))

pub misplaced_content-view-p-requires : goal.misplaced_content-view-p-requires
misplaced_content-view-p-requires t c = (walk-front c.loop-p.invariant.1 c.loop-p-test.true).held

pub misplaced_content-loop-p-smaller : goal.misplaced_content-loop-p-smaller
misplaced_content-loop-p-smaller t c = let s = walk-front c.loop-p.invariant.1 c.loop-p-test.true in rw c.view-p.ensures (omega (arith, s.forward, s.inside))

pub misplaced_content-loop-p-preserved : goal.misplaced_content-loop-p-preserved
misplaced_content-loop-p-preserved t c = let l = c.loop-p-test.true in
    let s = walk-front c.loop-p.invariant.1 l in
    rw c.view-p.ensures (
      omega (arith, s.forward, c.loop-p.invariant.0),
      walk-next c.loop-p.invariant.1 l,
      λ K q t e f h. going_more (astray K q) (c.loop-p.invariant.2 K q t e f h) l (λ x y k. astray-past K q x y (sym (c.misplaced_node.ensures K q t e x k) ∙ c.if-misplaced_node.false)),
    )

pub misplaced_content-returns : goal.misplaced_content-returns
misplaced_content-returns t c K q s e f h = sym (going_done (c.loop-p.invariant.2 K q s e f h) c.loop-p-test.false ∙ astray-end K q)

pub misplaced_node-view-v-requires : goal.misplaced_node-view-v-requires
misplaced_node-view-v-requires t c = (walk-front c.requires.1 c.requires.0).held

pub misplaced_node-is_above-requires : goal.misplaced_node-is_above-requires
misplaced_node-is_above-requires t c = c.requires.1.placed.table.held

pub misplaced_node-returns-then-not-is_above : goal.misplaced_node-returns-then-not-is_above
misplaced_node-returns-then-not-is_above t c K q s e f h = let b = unescape 0 (bytes_at c.args.doc.now.src.now c.args.doc.now.tape.now c.args.p) in
    let k = rw c.view-v.ensures at c.if-v-eq0.true in
    sym (astray-under K q b (text-node h c.requires.0 k) (sym (c.is_above.ensures c.args.keys.now.text.now K q s e) ∙ c.if-not-is_above.true))

pub misplaced_node-part-requires : goal.misplaced_node-part-requires
misplaced_node-part-requires t c = rw c.view-v.ensures (omega arith, omega (arith, (walk-front c.requires.1 c.requires.0).within))

pub misplaced_node-returns-then-v-eq0 : goal.misplaced_node-returns-then-v-eq0
misplaced_node-returns-then-v-eq0 t c K q s e f h = let b = unescape 0 (bytes_at c.args.doc.now.src.now c.args.doc.now.tape.now c.args.p) in
    let k = rw c.view-v.ensures at c.if-v-eq0.true in
    ap not (rw (c.part.ensures, c.view-v.ensures) at c.is_white.ensures)
    ∙ sym (astray-run K q b (text-node h c.requires.0 k) (sym (c.is_above.ensures c.args.keys.now.text.now K q s e) ∙ c.if-not-is_above.false))

pub misplaced_node-returns-then-v-ne1 : goal.misplaced_node-returns-then-v-ne1
misplaced_node-returns-then-v-ne1 t c K q s e f h = let v = c.view-v.ensures in
    sym (astray-other K q h c.requires.0 (rw v at c.if-v-eq0.false) (rw v at c.if-v-ne1.true))

pub misplaced_node-child-below-requires : goal.misplaced_node-child-below-requires
misplaced_node-child-below-requires t c = c.requires.1.placed

pub misplaced_node-part-name-requires : goal.misplaced_node-part-name-requires
misplaced_node-part-name-requires t c = rw c.view-v.ensures (omega arith, (walk-front c.requires.1 c.requires.0).within)

pub misplaced_node-is_strange-requires : goal.misplaced_node-is_strange-requires
misplaced_node-is_strange-requires t c = c.requires.1.placed.table.held

pub misplaced_node-returns-then-is_strange : goal.misplaced_node-returns-then-is_strange
misplaced_node-returns-then-is_strange t c K q s e f h = let v = c.view-v.ensures in
    let k = rw v at c.if-v-ne1.false in
    let i = inner-node h c.requires.0 (λ z. omega arith) in
    let d = rw (c.part-name.ensures, v) at c.child-below.ensures in
    let o = rw (c.part-name.ensures, v) at c.is_strange.ensures in
    sym (astray-strange K q (i.element k) (sym (o K q s e (sym (d K q s e))) ∙ c.if-is_strange.true))

pub misplaced_node-overflow_add-p : goal.misplaced_node-overflow_add-p
misplaced_node-overflow_add-p t c = omega (arith, (walk-front c.requires.1 c.requires.0).held, c.well_formed)

pub misplaced_node-misplaced_content-requires : goal.misplaced_node-misplaced_content-requires
misplaced_node-misplaced_content-requires t c =
    let below : Walk c.args.keys.now.text.now c.args.keys.now.table.now c.args.keys.now.paths c.child-below.result c.args.doc.now.src.now c.args.doc.now.tape.now (c.args.p + 1) (next_at c.args.doc.now.tape.now c.args.p) = let v = c.view-v.ensures in let k = rw v at c.if-v-ne1.false in walk-kids c.requires.1 c.requires.0 (λ z. omega arith) (rw (c.part-name.ensures, v) at c.child-below.ensures) in
    rw c.view-v.ensures (omega (arith, c.decreases, c.requires.0), below)

pub misplaced_node-returns : goal.misplaced_node-returns
misplaced_node-returns t c K q s e f h = let v = c.view-v.ensures in
    let k = rw v at c.if-v-ne1.false in
    let i = inner-node h c.requires.0 (λ z. omega arith) in
    let d = rw (c.part-name.ensures, v) at c.child-below.ensures in
    let o = rw (c.part-name.ensures, v) at c.is_strange.ensures in
    let r = rw v at c.misplaced_content.ensures in
    let n = q ▸ bytes_at c.args.doc.now.src.now c.args.doc.now.tape.now c.args.p in
    r K n s (sym (d K q s e)) i.kids i.tape
    ∙ sym (astray-inside K q (i.element k) (sym (o K q s e (sym (d K q s e))) ∙ c.if-is_strange.false))
