-- `xml::matching::match_content` and `xml::matching::match_element` meet their contracts: they call each other, and the nodes that are left fall.
-- Of the siblings, those from p on are to stand at the place where the loop has come to. Assumes nothing.
use native.Mathlib.Omega.{arith}
use mathlib.Core.Path.{sym, ◌∙◌}
use Rattle.xml.specs.MatchingLaws.{match-fits, match-past, match-then, due-none, due-more, due-done, text-matches}
use Rattle.xml.specs.Tape.{next_at}
use Rattle.xml.specs.TapeLaws.{Front, Inner, Split, front, inner-node, split}
use Rattle.xml.proofs.matching.+match_content_match_element.Goals as goal

pub match_content-loop-p-init : goal.match_content-loop-p-init
match_content-loop-p-init t c = (omega arith, c.requires.0, λ f h. due-none h)

pub match_content-returns-then-doc-to : goal.match_content-returns-then-doc-to
match_content-returns-then-doc-to t c f h = let a = c.args in let l = c.loop-p in sym ((l.invariant.2 f h).left ∙ match-past a.doc.now.src.now l.to _ c.if-doc-to.true l.invariant.1)

pub match_content-view-v-requires : goal.match_content-view-v-requires
match_content-view-v-requires t c =
    let turn : Front c.args.doc.now.src.now c.args.doc.now.tape.now c.loop-p.p c.args.hi = front (c.loop-p.invariant.2 c.requires.2.forest c.requires.2.tape).tape c.loop-p-test.true in
    turn.held

pub match_content-match_text-to-requires : goal.match_content-match_text-to-requires
match_content-match_text-to-requires t c =
    let turn : Front c.args.doc.now.src.now c.args.doc.now.tape.now c.loop-p.p c.args.hi = front (c.loop-p.invariant.2 c.requires.2.forest c.requires.2.tape).tape c.loop-p-test.true in
    rw c.view-v.ensures (c.loop-p.invariant.1, c.requires.1, omega arith, turn.within)

pub match_content-match_element-to-requires : goal.match_content-match_element-to-requires
match_content-match_element-to-requires t c =
    let first : let d = c.loop-p.invariant.2 c.requires.2.forest c.requires.2.tape in Split c.args.doc.now.src.now c.args.doc.now.tape.now c.loop-p.p c.args.hi d.rest = split (c.loop-p.invariant.2 c.requires.2.forest c.requires.2.tape).tape c.loop-p-test.true in
    let turn : Front c.args.doc.now.src.now c.args.doc.now.tape.now c.loop-p.p c.args.hi = front (c.loop-p.invariant.2 c.requires.2.forest c.requires.2.tape).tape c.loop-p-test.true in
    let s = turn in
    let d = first in
    (omega (arith, s.forward, s.inside, c.loop-p.invariant.0, c.decreases), (c.loop-p.invariant.1, c.requires.1, s.forward, rw c.view-v.ensures at c.if-v-eq0.false, record { forest = d.first; tape = d.here }))

pub match_content-loop-p-smaller-then-v-eq0 : goal.match_content-loop-p-smaller-then-v-eq0
match_content-loop-p-smaller-then-v-eq0 t c =
    let turn : Front c.args.doc.now.src.now c.args.doc.now.tape.now c.loop-p.p c.args.hi = front (c.loop-p.invariant.2 c.requires.2.forest c.requires.2.tape).tape c.loop-p-test.true in
    let s = turn in rw c.view-v.ensures (omega (arith, s.forward, s.inside))

pub match_content-loop-p-preserved-then-v-eq0 : goal.match_content-loop-p-preserved-then-v-eq0
match_content-loop-p-preserved-then-v-eq0 t c =
    let turn : Front c.args.doc.now.src.now c.args.doc.now.tape.now c.loop-p.p c.args.hi = front (c.loop-p.invariant.2 c.requires.2.forest c.requires.2.tape).tape c.loop-p-test.true in
    let v = c.view-v.ensures in
    let s = turn in
    let l = c.loop-p in
    let m = rw v at c.match_text-to.ensures in
    rw v (omega (arith, s.forward, l.invariant.0), match-fits c.args.doc.now.src.now l.to _ m l.invariant.1, λ f h. due-more (l.invariant.2 f h) c.loop-p-test.true (text-matches l.to s.forward (rw v at c.if-v-eq0.true) m))

pub match_content-loop-p-smaller : goal.match_content-loop-p-smaller
match_content-loop-p-smaller t c =
    let turn : Front c.args.doc.now.src.now c.args.doc.now.tape.now c.loop-p.p c.args.hi = front (c.loop-p.invariant.2 c.requires.2.forest c.requires.2.tape).tape c.loop-p-test.true in
    let s = turn in rw c.view-v.ensures (omega (arith, s.forward, s.inside))

pub match_content-loop-p-preserved : goal.match_content-loop-p-preserved
match_content-loop-p-preserved t c =
    let first : let d = c.loop-p.invariant.2 c.requires.2.forest c.requires.2.tape in Split c.args.doc.now.src.now c.args.doc.now.tape.now c.loop-p.p c.args.hi d.rest = split (c.loop-p.invariant.2 c.requires.2.forest c.requires.2.tape).tape c.loop-p-test.true in
    let turn : Front c.args.doc.now.src.now c.args.doc.now.tape.now c.loop-p.p c.args.hi = front (c.loop-p.invariant.2 c.requires.2.forest c.requires.2.tape).tape c.loop-p-test.true in
    let s = turn in
    let d = first in
    let l = c.loop-p in
    let m = c.match_element-to.ensures in
    rw c.view-v.ensures (omega (arith, s.forward, l.invariant.0), match-fits c.args.doc.now.src.now l.to _ (m d.first d.here) l.invariant.1, λ f h. due-more (l.invariant.2 f h) c.loop-p-test.true m)

pub match_content-returns : goal.match_content-returns
match_content-returns t c f h = due-done (c.loop-p.invariant.2 f h) c.loop-p-test.false

pub match_element-view-v-requires : goal.match_element-view-v-requires
match_element-view-v-requires t c =
    let here : Front c.args.doc.now.src.now c.args.doc.now.tape.now c.args.p (next_at c.args.doc.now.tape.now c.args.p) = front c.requires.4.tape c.requires.2 in
    here.held

pub match_element-match_open-inside-requires : goal.match_element-match_open-inside-requires
match_element-match_open-inside-requires t c =
    let here : Front c.args.doc.now.src.now c.args.doc.now.tape.now c.args.p (next_at c.args.doc.now.tape.now c.args.p) = front c.requires.4.tape c.requires.2 in
    rw c.view-v.ensures (c.requires.0, c.requires.1, omega arith, here.within)

pub match_element-overflow_add-p : goal.match_element-overflow_add-p
match_element-overflow_add-p t c =
    let here : Front c.args.doc.now.src.now c.args.doc.now.tape.now c.args.p (next_at c.args.doc.now.tape.now c.args.p) = front c.requires.4.tape c.requires.2 in
    omega (arith, here.held)

pub match_element-match_content-close-requires : goal.match_element-match_content-close-requires
match_element-match_content-close-requires t c =
    let inner : Inner c.args.doc.now.src.now c.args.doc.now.tape.now c.args.p c.requires.4.forest = inner-node c.requires.4.tape c.requires.2 c.requires.3 in
    let i = inner in
    let m = match-fits c.args.doc.now.src.now c.args.at _ c.match_open-inside.ensures c.requires.0 in
    rw c.view-v.ensures (omega (arith, c.decreases, c.requires.2), (m, c.requires.1, record { forest = i.kids; tape = i.tape }))

pub match_element-match_close-requires : goal.match_element-match_close-requires
match_element-match_close-requires t c =
    let here : Front c.args.doc.now.src.now c.args.doc.now.tape.now c.args.p (next_at c.args.doc.now.tape.now c.args.p) = front c.requires.4.tape c.requires.2 in
    let inner : Inner c.args.doc.now.src.now c.args.doc.now.tape.now c.args.p c.requires.4.forest = inner-node c.requires.4.tape c.requires.2 c.requires.3 in
    let v = c.view-v.ensures in
    let s = c.args.doc.now.src.now in
    let i = inner in
    let k = rw v at c.match_content-close.ensures in
    let m = match-fits s c.match_open-inside.result _ (k i.kids i.tape) (match-fits s c.args.at _ c.match_open-inside.ensures c.requires.0) in
    rw v (m, c.requires.1, omega arith, here.within)

pub match_element-returns : goal.match_element-returns
match_element-returns t c f h = let v = c.view-v.ensures in
    let a = c.args in
    let i = inner-node h c.requires.2 c.requires.3 in
    let k = rw v at c.match_content-close.ensures in
    rw i.written (match-then a.doc.now.src.now a.at _ _ (match-then a.doc.now.src.now a.at _ _ (rw v at c.match_open-inside.ensures) (k i.kids i.tape)) (rw v at c.match_close.ensures))
