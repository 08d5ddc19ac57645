-- `find_step` meets its contract: the siblings left hold the one with the label, if there is one.
use native.Mathlib.Omega.{arith}
use mathlib.Core.Path.{◌≡◌, sym, subst, ◌∙◌}
use Rattle.xml.specs.TapeLaws.{Front, front, tape-le}
use Rattle.versions.specs.HistoryTape.{StepAt, StepLeft, left-start, left-sibling, left-on, left_here, left-none}
use Rattle.walks.proofs.history.find_step.Goals as goal

pub loop-p-init : goal.loop-p-init
loop-p-init c K m q l t f a b x h = left-start x h

pub element_at-e-requires : goal.element_at-e-requires
element_at-e-requires c =
    let here : StepLeft c.args.doc.now.src.now c.args.doc.now.tape.now c.requires.0.key_list c.requires.0.versions c.requires.0.path c.requires.0.step c.requires.0.times c.loop-p.p c.args.hi c.requires.0.siblings = let h = c.requires.0 in c.loop-p.invariant h.key_list h.versions h.path h.step h.times h.siblings h.tabled h.step_is h.tape h.legal in
    let turn : Front c.args.doc.now.src.now c.args.doc.now.tape.now c.loop-p.p c.args.hi = front (here).tape c.loop-p-test.true in
    turn.held

pub same_step-requires : goal.same_step-requires
same_step-requires c =
    let here : StepLeft c.args.doc.now.src.now c.args.doc.now.tape.now c.requires.0.key_list c.requires.0.versions c.requires.0.path c.requires.0.step c.requires.0.times c.loop-p.p c.args.hi c.requires.0.siblings = let h = c.requires.0 in c.loop-p.invariant h.key_list h.versions h.path h.step h.times h.siblings h.tabled h.step_is h.tape h.legal in
    let h = c.requires.0 in
    let g = left-sibling here c.loop-p-test.true in
    rw c.element_at-e.ensures (record { key_list = h.key_list; path = h.path; tabled = h.tabled; step = h.step; step_is = h.step_is; called-as = g.name; kids = g.kids; node = g.node; tape = g.tape; once = g.once }, c.requires.1)

pub returns-then-same_step : goal.returns-then-same_step
returns-then-same_step c K m q l t f a b x h = let y = c.loop-p.invariant K m q l t f a b x h in
    let g = left-sibling y c.loop-p-test.true in
    let u = rw c.element_at-e.ensures at c.same_step.ensures in
    (left_here y c.loop-p-test.true (sym (u K q l a b g.name g.kids g.node g.tape) ∙ c.if-same_step.true)).there (λ z. absurd (omega (arith, z, c.loop-p-test.true)))

pub view-p-requires : goal.view-p-requires
view-p-requires c =
    let here : StepLeft c.args.doc.now.src.now c.args.doc.now.tape.now c.requires.0.key_list c.requires.0.versions c.requires.0.path c.requires.0.step c.requires.0.times c.loop-p.p c.args.hi c.requires.0.siblings = let h = c.requires.0 in c.loop-p.invariant h.key_list h.versions h.path h.step h.times h.siblings h.tabled h.step_is h.tape h.legal in
    let turn : Front c.args.doc.now.src.now c.args.doc.now.tape.now c.loop-p.p c.args.hi = front (here).tape c.loop-p-test.true in
    turn.held

pub loop-p-smaller : goal.loop-p-smaller
loop-p-smaller c =
    let here : StepLeft c.args.doc.now.src.now c.args.doc.now.tape.now c.requires.0.key_list c.requires.0.versions c.requires.0.path c.requires.0.step c.requires.0.times c.loop-p.p c.args.hi c.requires.0.siblings = let h = c.requires.0 in c.loop-p.invariant h.key_list h.versions h.path h.step h.times h.siblings h.tabled h.step_is h.tape h.legal in
    let turn : Front c.args.doc.now.src.now c.args.doc.now.tape.now c.loop-p.p c.args.hi = front (here).tape c.loop-p-test.true in
    let w = turn in rw c.view-p.ensures (omega (arith, w.forward, w.inside))

pub loop-p-preserved : goal.loop-p-preserved
loop-p-preserved c = rw c.view-p.ensures (λ K m q l t f a b x h.
    let y = c.loop-p.invariant K m q l t f a b x h in
    let g = left-sibling y c.loop-p-test.true in
    let u = rw c.element_at-e.ensures at c.same_step.ensures in
    left-on y c.loop-p-test.true (sym (u K q l a b g.name g.kids g.node g.tape) ∙ c.if-same_step.false))

pub returns : goal.returns
returns c K m q l t f a b x h =
    let y = c.loop-p.invariant K m q l t f a b x h in
    let z : c.loop-p.p ≡ c.args.hi = omega (arith, tape-le y.tape, c.loop-p-test.false) in
    subst (λ r. StepAt c.args.doc.now.src.now c.args.doc.now.tape.now K m q l c.args.hi f r) z (left-none y c.loop-p-test.false)
