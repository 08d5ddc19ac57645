-- `legality::front::is_repeated` meets its contract. The loop's invariant (`Sought`): the content is among all nodes just where it is among
-- those left, whose hashes come from the j-th on. Assumes nothing.
use Prim.Native.Nat.{◌+◌}
use native.Mathlib.Omega.{arith}
use mathlib.Core.Path.{sym, ◌∙◌}
use borrow.Author.Rules.{rules}
use Rattle.xml.specs.Forest.{Forest}
use Rattle.xml.specs.Tape.{Tape, next_at}
use Rattle.xml.specs.TapeLaws.{Front, front}
use Rattle.versions.specs.Branches.{Sought, first, sought-start, sought-found, sought-more, sought-none}
use Rattle.versions.specs.Hashes.{NotedFirst, noted-first}
use Rattle.legality.proofs.front.is_repeated.Goals as goal

pub loop-p-init : goal.loop-p-init
loop-p-init c = (omega arith, λ d k t u. sought-start t, c.requires.3)

pub view-v-requires : goal.view-v-requires
view-v-requires c =
    let way : Sought c.args.doc.now.src.now c.args.doc.now.tape.now c.loop-p.p c.args.hi c.requires.1.forest c.requires.0.forest = c.loop-p.invariant.1 c.requires.0.forest c.requires.1.forest c.requires.0.tape c.requires.1.tape in
    let here : Front c.args.doc.now.src.now c.args.doc.now.tape.now c.loop-p.p c.args.hi = front (way).tape c.loop-p-test.true in
    here.held

pub offset_bounds-hashes-j : goal.offset_bounds-hashes-j
offset_bounds-hashes-j c =
    let way : Sought c.args.doc.now.src.now c.args.doc.now.tape.now c.loop-p.p c.args.hi c.requires.1.forest c.requires.0.forest = c.loop-p.invariant.1 c.requires.0.forest c.requires.1.forest c.requires.0.tape c.requires.1.tape in
    let note : (k r : Forest) → Tape c.args.doc.now.src.now c.args.doc.now.tape.now (c.loop-p.p + 1) (next_at c.args.doc.now.tape.now c.loop-p.p) k → Tape c.args.doc.now.src.now c.args.doc.now.tape.now (next_at c.args.doc.now.tape.now c.loop-p.p) c.args.hi r → NotedFirst c.args.hashes.now c.loop-p.j k r = λ k r t u. noted-first (way).tape c.loop-p-test.true t u (c.loop-p.invariant.2 _ (way).tape) in
    let g = first way.tape c.loop-p-test.true in let w = (note g.kids g.rest g.inside g.after).within in search rules

pub bounds-hashes-j : goal.bounds-hashes-j
bounds-hashes-j c =
    let way : Sought c.args.doc.now.src.now c.args.doc.now.tape.now c.loop-p.p c.args.hi c.requires.1.forest c.requires.0.forest = c.loop-p.invariant.1 c.requires.0.forest c.requires.1.forest c.requires.0.tape c.requires.1.tape in
    let note : (k r : Forest) → Tape c.args.doc.now.src.now c.args.doc.now.tape.now (c.loop-p.p + 1) (next_at c.args.doc.now.tape.now c.loop-p.p) k → Tape c.args.doc.now.src.now c.args.doc.now.tape.now (next_at c.args.doc.now.tape.now c.loop-p.p) c.args.hi r → NotedFirst c.args.hashes.now c.loop-p.j k r = λ k r t u. noted-first (way).tape c.loop-p-test.true t u (c.loop-p.invariant.2 _ (way).tape) in
    let g = first way.tape c.loop-p-test.true in (note g.kids g.rest g.inside g.after).within

pub overflow_add-p : goal.overflow_add-p
overflow_add-p c =
    let way : Sought c.args.doc.now.src.now c.args.doc.now.tape.now c.loop-p.p c.args.hi c.requires.1.forest c.requires.0.forest = c.loop-p.invariant.1 c.requires.0.forest c.requires.1.forest c.requires.0.tape c.requires.1.tape in
    let here : Front c.args.doc.now.src.now c.args.doc.now.tape.now c.loop-p.p c.args.hi = front (way).tape c.loop-p-test.true in
    omega (arith, here.held)

pub same_content-requires : goal.same_content-requires
same_content-requires c =
    let way : Sought c.args.doc.now.src.now c.args.doc.now.tape.now c.loop-p.p c.args.hi c.requires.1.forest c.requires.0.forest = c.loop-p.invariant.1 c.requires.0.forest c.requires.1.forest c.requires.0.tape c.requires.1.tape in
    let note : (k r : Forest) → Tape c.args.doc.now.src.now c.args.doc.now.tape.now (c.loop-p.p + 1) (next_at c.args.doc.now.tape.now c.loop-p.p) k → Tape c.args.doc.now.src.now c.args.doc.now.tape.now (next_at c.args.doc.now.tape.now c.loop-p.p) c.args.hi r → NotedFirst c.args.hashes.now c.loop-p.j k r = λ k r t u. noted-first (way).tape c.loop-p-test.true t u (c.loop-p.invariant.2 _ (way).tape) in
    let g = first way.tape c.loop-p-test.true in
    rw c.view-v.ensures (c.requires.1, record { forest = _; tape = g.inside }, c.requires.2, λ k t. (note k g.rest t g.after).is)

pub returns-then-same_content : goal.returns-then-same_content
returns-then-same_content c d k t u = sym (sought-found (c.loop-p.invariant.1 d k t u) c.loop-p-test.true (λ g h. sym c.if-same_content.true ∙ (rw c.view-v.ensures at c.same_content.ensures) k g u h))

pub overflow_add-j : goal.overflow_add-j
overflow_add-j c =
    let way : Sought c.args.doc.now.src.now c.args.doc.now.tape.now c.loop-p.p c.args.hi c.requires.1.forest c.requires.0.forest = c.loop-p.invariant.1 c.requires.0.forest c.requires.1.forest c.requires.0.tape c.requires.1.tape in
    let note : (k r : Forest) → Tape c.args.doc.now.src.now c.args.doc.now.tape.now (c.loop-p.p + 1) (next_at c.args.doc.now.tape.now c.loop-p.p) k → Tape c.args.doc.now.src.now c.args.doc.now.tape.now (next_at c.args.doc.now.tape.now c.loop-p.p) c.args.hi r → NotedFirst c.args.hashes.now c.loop-p.j k r = λ k r t u. noted-first (way).tape c.loop-p-test.true t u (c.loop-p.invariant.2 _ (way).tape) in
    let g = first way.tape c.loop-p-test.true in omega (arith, (note g.kids g.rest g.inside g.after).within)

pub loop-p-smaller : goal.loop-p-smaller
loop-p-smaller c =
    let way : Sought c.args.doc.now.src.now c.args.doc.now.tape.now c.loop-p.p c.args.hi c.requires.1.forest c.requires.0.forest = c.loop-p.invariant.1 c.requires.0.forest c.requires.1.forest c.requires.0.tape c.requires.1.tape in
    let here : Front c.args.doc.now.src.now c.args.doc.now.tape.now c.loop-p.p c.args.hi = front (way).tape c.loop-p-test.true in
    let s = here in rw c.view-v.ensures (omega (arith, s.forward, s.inside))

pub loop-p-preserved : goal.loop-p-preserved
loop-p-preserved c =
    let way : Sought c.args.doc.now.src.now c.args.doc.now.tape.now c.loop-p.p c.args.hi c.requires.1.forest c.requires.0.forest = c.loop-p.invariant.1 c.requires.0.forest c.requires.1.forest c.requires.0.tape c.requires.1.tape in
    let here : Front c.args.doc.now.src.now c.args.doc.now.tape.now c.loop-p.p c.args.hi = front (way).tape c.loop-p-test.true in
    let note : (k r : Forest) → Tape c.args.doc.now.src.now c.args.doc.now.tape.now (c.loop-p.p + 1) (next_at c.args.doc.now.tape.now c.loop-p.p) k → Tape c.args.doc.now.src.now c.args.doc.now.tape.now (next_at c.args.doc.now.tape.now c.loop-p.p) c.args.hi r → NotedFirst c.args.hashes.now c.loop-p.j k r = λ k r t u. noted-first (way).tape c.loop-p-test.true t u (c.loop-p.invariant.2 _ (way).tape) in
    let s = here in
    let g = first way.tape c.loop-p-test.true in
    rw c.view-v.ensures (omega (arith, s.forward, c.loop-p.invariant.0), λ d k t u. sought-more (c.loop-p.invariant.1 d k t u) c.loop-p-test.true (λ g h. sym c.if-same_content.false ∙ (rw c.view-v.ensures at c.same_content.ensures) k g u h), λ r t. (note g.kids r g.inside t).rest)

pub returns : goal.returns
returns c d k t u = sym (sought-none (c.loop-p.invariant.1 d k t u) c.loop-p-test.false)
