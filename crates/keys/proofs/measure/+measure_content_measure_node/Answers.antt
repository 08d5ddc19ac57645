-- `keys::measure::measure_content` and `measure_node` meet their contracts: what is measured of all nodes is, after the sizes so far, what is
-- measured of the nodes to come. The nodes left fall. Assumes nothing.
use native.Mathlib.Omega.{arith}
use mathlib.Core.Path.{ap, sym, ◌∙◌, subst}
use lib.Seq.{length-slice}
use Rattle.xml.specs.Tape.{head_at, start_in, end_in}
use Rattle.xml.specs.Read.{unescape}
use Rattle.xml.specs.TapeLaws.{bytes_at, text-node}
use Rattle.keys.specs.Version.{◌▸◌}
use Rattle.keys.specs.Walks.{walk-front, walk-node, walk-next, walk-kids, going_start, going_more, going-found, going_done}
use Rattle.keys.specs.Measure.{Within, measured}
use Rattle.keys.specs.MeasureLaws.{measured-end, measured-text, measured-within, tags-within, measured-stop, measured-past, measured-inside, onward-stop, onward-on}
use Prim.Native.Nat.{◌<◌}
use Rattle.keys.proofs.measure.+measure_content_measure_node.Goals as goal

pub measure_content-loop-p-init : goal.measure_content-loop-p-init
measure_content-loop-p-init t c = (omega arith, c.requires.0, c.requires.1, c.requires.2, λ K q s e f h. going_start (λ g. measured K q c.args.depth g c.args.from) h)

pub measure_content-measure_node-s-requires : goal.measure_content-measure_node-s-requires
measure_content-measure_node-s-requires t c = let s = walk-front c.loop-p.invariant.1 c.loop-p-test.true in
    (omega (arith, s.forward, s.inside, c.loop-p.invariant.0, c.decreases), (s.forward, walk-node c.loop-p.invariant.1 c.loop-p-test.true, c.loop-p.invariant.2))

pub measure_content-returns-then-s : goal.measure_content-returns-then-s
measure_content-returns-then-s t c K q s e f h = sym (going-found (c.loop-p.invariant.4 K q s e f h) c.loop-p-test.true
    (λ x y k. measured-stop K q c.args.depth x y c.loop-p.s c.loop-p.invariant.3 (c.measure_node-s.ensures K q s e x k) c.if-s.true))

pub measure_content-view-p-requires : goal.measure_content-view-p-requires
measure_content-view-p-requires t c = (walk-front c.loop-p.invariant.1 c.loop-p-test.true).held

pub measure_content-loop-p-smaller : goal.measure_content-loop-p-smaller
measure_content-loop-p-smaller t c = let s = walk-front c.loop-p.invariant.1 c.loop-p-test.true in rw c.view-p.ensures (omega (arith, s.forward, s.inside))

pub measure_content-loop-p-preserved : goal.measure_content-loop-p-preserved
measure_content-loop-p-preserved t c = let l = c.loop-p-test.true in
    let s = walk-front c.loop-p.invariant.1 l in
    let w = walk-node c.loop-p.invariant.1 l in
    let a = w.placed in
    rw c.view-p.ensures (
      omega (arith, s.forward, c.loop-p.invariant.0),
      walk-next c.loop-p.invariant.1 l,
      subst Within (sym (c.measure_node-s.ensures a.key_list a.path a.table a.place_is w.valid.forest w.valid.tape)) (measured-within a.key_list a.path c.args.depth w.valid.forest c.loop-p.s c.loop-p.invariant.2),
      c.if-s.false,
      λ K q t e f h. going_more (λ g. measured K q c.args.depth g c.measure_node-s.result) (c.loop-p.invariant.4 K q t e f h) l
          (λ x y k. measured-past K q c.args.depth x y c.loop-p.s c.loop-p.invariant.3 (c.measure_node-s.ensures K q t e x k) c.if-s.false),
    )

pub measure_content-returns : goal.measure_content-returns
measure_content-returns t c K q s e f h = sym (going_done (c.loop-p.invariant.4 K q s e f h) c.loop-p-test.false ∙ measured-end K q c.args.depth c.loop-p.s)

pub measure_node-view-v-requires : goal.measure_node-view-v-requires
measure_node-view-v-requires t c = (walk-front c.requires.1 c.requires.0).held

pub measure_node-add_text-requires : goal.measure_node-add_text-requires
measure_node-add_text-requires t c = rw (c.part.ensures, c.view-v.ensures) (c.requires.1.placed.table.held, omega (arith, length-slice (start_in (head_at c.args.doc.now.tape.now c.args.p)) (end_in (head_at c.args.doc.now.tape.now c.args.p)) c.args.doc.now.src.now (walk-front c.requires.1 c.requires.0).within), c.requires.2)

pub measure_node-returns-then-v-eq0 : goal.measure_node-returns-then-v-eq0
measure_node-returns-then-v-eq0 t c K q s e f h = let v = c.view-v.ensures in
    let o = rw (c.part.ensures, v) at c.add_text.ensures in
    let b = unescape 0 (bytes_at c.args.doc.now.src.now c.args.doc.now.tape.now c.args.p) in
    o K q s e ∙ sym (ap (λ x. measured K q c.args.depth x c.args.s) (text-node h c.requires.0 (rw v at c.if-v-eq0.true)) ∙ measured-text K q c.args.depth b c.args.s)

pub measure_node-returns-then-depth-eq0 : goal.measure_node-returns-then-depth-eq0
measure_node-returns-then-depth-eq0 t c K q s e f h = c.over.ensures ∙ sym ((measured-inside K q c.args.depth c.args.s h c.requires.0 (rw c.view-v.ensures at c.if-v-eq0.false)).low c.if-depth-eq0.true)

pub measure_node-add_tags-t-requires : goal.measure_node-add_tags-t-requires
measure_node-add_tags-t-requires t c = rw (c.part-name.ensures, c.view-v.ensures) (omega (arith, length-slice (start_in (head_at c.args.doc.now.tape.now c.args.p)) (end_in (head_at c.args.doc.now.tape.now c.args.p)) c.args.doc.now.src.now (walk-front c.requires.1 c.requires.0).within), c.requires.2)

pub measure_node-returns-then-t : goal.measure_node-returns-then-t
measure_node-returns-then-t t c K q s e f h = let v = c.view-v.ensures in
    let i = measured-inside K q c.args.depth c.args.s h c.requires.0 (rw v at c.if-v-eq0.false) in
    let d = rw (c.part-name.ensures, v) at c.add_tags-t.ensures in
    let l : 0 < c.args.depth = omega arith in
    sym (i.deep l ∙ onward-stop _ d c.if-t.true)

pub measure_node-child-below-requires : goal.measure_node-child-below-requires
measure_node-child-below-requires t c = c.requires.1.placed

pub measure_node-part-requires : goal.measure_node-part-requires
measure_node-part-requires t c = rw c.view-v.ensures (omega arith, (walk-front c.requires.1 c.requires.0).within)

pub measure_node-part-name-requires : goal.measure_node-part-name-requires
measure_node-part-name-requires t c = rw c.view-v.ensures (omega arith, (walk-front c.requires.1 c.requires.0).within)

pub measure_node-overflow_sub-d : goal.measure_node-overflow_sub-d
measure_node-overflow_sub-d t c = omega arith

pub measure_node-overflow_add-p : goal.measure_node-overflow_add-p
measure_node-overflow_add-p t c = omega (arith, (walk-front c.requires.1 c.requires.0).held)

pub measure_node-measure_content-requires : goal.measure_node-measure_content-requires
measure_node-measure_content-requires t c = let v = c.view-v.ensures in
    let d = rw (c.part-name.ensures, v) at c.add_tags-t.ensures in
    rw v (
      omega (arith, c.decreases, c.requires.0),
      (walk-kids c.requires.1 c.requires.0 (rw v at c.if-v-eq0.false) (rw (c.part-name.ensures, v) at c.child-below.ensures), subst Within (sym d) (tags-within c.args.s _), c.if-t.false),
    )

pub measure_node-returns : goal.measure_node-returns
measure_node-returns t c K q s e f h = let v = c.view-v.ensures in
    let i = measured-inside K q c.args.depth c.args.s h c.requires.0 (rw v at c.if-v-eq0.false) in
    let d = rw (c.part-name.ensures, v) at c.add_tags-t.ensures in
    let b = rw (c.part-name.ensures, v) at c.child-below.ensures in
    let r = rw v at c.measure_content.ensures in
    let l : 0 < c.args.depth = omega arith in
    r K (q ▸ bytes_at c.args.doc.now.src.now c.args.doc.now.tape.now c.args.p) s (sym (b K q s e)) i.kids i.tape ∙ sym (i.deep l ∙ onward-on _ d c.if-t.false)
