-- `write_branches` meets its contract: the contents before node p are written as they stood, and none is the version's. Assumes nothing.
use Prim.Native.Nat.{◌+◌}
use native.Mathlib.Omega.{arith}
use mathlib.Core.Path.{refl, sym, ◌∙◌, ap}
use lib.ListN.{length}
use Rattle.xml.specs.Forest.{nodes}
use Rattle.xml.specs.OverLaws.{length_at}
use Rattle.xml.specs.Tape.{head_at, start_in, end_in}
use Rattle.xml.specs.TapeLaws.{Front, bytes_at, front, length-write, tape-le}
use Rattle.timestamp.specs.Set.{adding}
use Rattle.timestamp.specs.Listed.{text_of}
use Rattle.versions.specs.Walk.{times_in}
use Rattle.versions.specs.TimedLaws.{legal-says, says-more, says-set}
use Rattle.versions.specs.AddParts.{Says}
use Rattle.versions.specs.AddFront.{branches-valid, branches-set, branches-rest, passing-none, passing-more, passing-same, passing-done, plain-count, valid-inside, valid-first}
use Rattle.adding.proofs.content.write_branches.Goals as goal

pub loop-p-init : goal.loop-p-init
loop-p-init c = (omega arith, c.requires.0, omega arith, refl, λ f v h g b. passing-none h b)

pub view-v-requires : goal.view-v-requires
view-v-requires c =
    let turn : Front c.args.archive.now.src.now c.args.archive.now.tape.now c.loop-p.p c.args.hi = front c.loop-p.invariant.1.tape c.loop-p-test.true in
    turn.held

pub overflow_add-p : goal.overflow_add-p
overflow_add-p c = omega (arith, c.requires.3, c.loop-p-test.true)

pub same_nodes-requires : goal.same_nodes-requires
same_nodes-requires c = rw c.view-v.ensures (c.requires.1, valid-inside (branches-valid c.loop-p.invariant.1) c.loop-p-test.true)

pub overflow_add-p-then-same_nodes : goal.overflow_add-p-then-same_nodes
overflow_add-p-then-same_nodes c = omega (arith, c.requires.3, c.loop-p-test.true)

pub put_more-rest-requires : goal.put_more-rest-requires
put_more-rest-requires c =
    let turn : Front c.args.archive.now.src.now c.args.archive.now.tape.now c.loop-p.p c.args.hi = front c.loop-p.invariant.1.tape c.loop-p-test.true in
    let says : Says c.args.n c.args.archive.now.src.now (start_in (head_at c.args.archive.now.tape.now c.loop-p.p)) (end_in (head_at c.args.archive.now.tape.now c.loop-p.p)) (times_in c.args.n (bytes_at c.args.archive.now.src.now c.args.archive.now.tape.now c.loop-p.p)) = legal-says c.args.n (start_in (head_at c.args.archive.now.tape.now c.loop-p.p)) (end_in (head_at c.args.archive.now.tape.now c.loop-p.p)) c.args.archive.now.src.now (omega (arith, c.requires.2)) (omega arith) (turn).within (branches-set c.loop-p.invariant.1 c.loop-p-test.true) in
    let y = says in rw c.view-v.ensures (y.ordered, y.within, y.short, says-set y, c.requires.2, valid-inside (branches-valid c.loop-p.invariant.1) c.loop-p-test.true, omega (arith, turn.inside, c.requires.3), omega (arith, c.loop-p.invariant.2, c.loop-p.invariant.0, c.requires.3, c.requires.5, c.loop-p-test.true))

pub write_at-last-requires : goal.write_at-last-requires
write_at-last-requires c =
    let turn : Front c.args.archive.now.src.now c.args.archive.now.tape.now c.loop-p.p c.args.hi = front c.loop-p.invariant.1.tape c.loop-p-test.true in
    rw c.view-v.ensures (branches-valid (branches-rest c.loop-p.invariant.1 c.loop-p-test.true), c.requires.3, omega (arith, rw c.view-v.ensures at c.put_more-rest.ensures.1, turn.inside, c.loop-p.invariant.2, c.loop-p.invariant.0, c.requires.3, c.requires.5, c.loop-p-test.true))

pub shape_of-out-then-same_nodes : goal.shape_of-out-then-same_nodes
shape_of-out-then-same_nodes c =
    let turn : Front c.args.archive.now.src.now c.args.archive.now.tape.now c.loop-p.p c.args.hi = front c.loop-p.invariant.1.tape c.loop-p-test.true in
    let says : Says c.args.n c.args.archive.now.src.now (start_in (head_at c.args.archive.now.tape.now c.loop-p.p)) (end_in (head_at c.args.archive.now.tape.now c.loop-p.p)) (times_in c.args.n (bytes_at c.args.archive.now.src.now c.args.archive.now.tape.now c.loop-p.p)) = legal-says c.args.n (start_in (head_at c.args.archive.now.tape.now c.loop-p.p)) (end_in (head_at c.args.archive.now.tape.now c.loop-p.p)) c.args.archive.now.src.now (omega (arith, c.requires.2)) (omega arith) (turn).within (branches-set c.loop-p.invariant.1 c.loop-p-test.true) in
    let e = c.view-v.ensures in
    let w = says in
    let y = branches-rest c.loop-p.invariant.1 c.loop-p-test.true in
    let z = valid-inside (branches-valid c.loop-p.invariant.1) c.loop-p-test.true in
    ap length ((rw e at c.write_at-last.ensures) y.forest y.tape).bytes ∙ length_at _ _ _ ∙ ap length ((rw e at c.put_more-rest.ensures.0) w.set z.forest w.is z.tape).bytes ∙ length_at _ _ _ ∙ c.loop-p.invariant.3

pub returns-then-same_nodes : goal.returns-then-same_nodes
returns-then-same_nodes c f v h g b u =
    let turn : Front c.args.archive.now.src.now c.args.archive.now.tape.now c.loop-p.p c.args.hi = front c.loop-p.invariant.1.tape c.loop-p-test.true in
    let says : Says c.args.n c.args.archive.now.src.now (start_in (head_at c.args.archive.now.tape.now c.loop-p.p)) (end_in (head_at c.args.archive.now.tape.now c.loop-p.p)) (times_in c.args.n (bytes_at c.args.archive.now.src.now c.args.archive.now.tape.now c.loop-p.p)) = legal-says c.args.n (start_in (head_at c.args.archive.now.tape.now c.loop-p.p)) (end_in (head_at c.args.archive.now.tape.now c.loop-p.p)) c.args.archive.now.src.now (omega (arith, c.requires.2)) (omega arith) (turn).within (branches-set c.loop-p.invariant.1 c.loop-p-test.true) in
    let e = c.view-v.ensures in
    let t = turn in
    let x = c.loop-p.invariant.4 f v h g b in
    let s = says in
    let y = branches-rest c.loop-p.invariant.1 c.loop-p-test.true in
    let w = passing-same (text_of (adding (c.args.n + 1) s.set)) x c.loop-p-test.true
    (λ k i. sym ((rw e at c.same_nodes.ensures) v k g i) ∙ c.if-same_nodes.true) (λ l. says-more s c.requires.2)
    (λ k i. (rw e at c.put_more-rest.ensures.0) s.set k s.is i) (rw e at c.write_at-last.ensures) in
    record { wrote = w.0; count = w.1; few = omega arith; near = omega (arith, ((rw e at c.write_at-last.ensures) y.forest y.tape).place, length-write y.tape, (rw e at c.put_more-rest.ensures.1), t.inside, t.forward, c.loop-p.invariant.2, c.loop-p.invariant.0) }

pub write_at-to-requires : goal.write_at-to-requires
write_at-to-requires c =
    let turn : Front c.args.archive.now.src.now c.args.archive.now.tape.now c.loop-p.p c.args.hi = front c.loop-p.invariant.1.tape c.loop-p-test.true in
    rw c.view-v.ensures (valid-first (branches-valid c.loop-p.invariant.1) c.loop-p-test.true, omega (arith, turn.inside, c.requires.3), omega (arith, c.loop-p.invariant.2, c.loop-p.invariant.0, c.requires.3, c.requires.5, c.loop-p-test.true))

pub loop-p-smaller : goal.loop-p-smaller
loop-p-smaller c =
    let turn : Front c.args.archive.now.src.now c.args.archive.now.tape.now c.loop-p.p c.args.hi = front c.loop-p.invariant.1.tape c.loop-p-test.true in
    rw c.view-v.ensures (omega (arith, turn.forward, turn.inside))

pub loop-p-preserved : goal.loop-p-preserved
loop-p-preserved c =
    let turn : Front c.args.archive.now.src.now c.args.archive.now.tape.now c.loop-p.p c.args.hi = front c.loop-p.invariant.1.tape c.loop-p-test.true in
    let e = c.view-v.ensures in
    let t = turn in
    let l = c.loop-p-test.true in
    let y = valid-first (branches-valid c.loop-p.invariant.1) l in
    let w = rw e at c.write_at-to.ensures in
    rw e (
      omega (arith, t.forward, c.loop-p.invariant.0),
      branches-rest c.loop-p.invariant.1 l,
      omega (arith, t.forward, c.loop-p.invariant.0, c.loop-p.invariant.2, (w y.forest y.tape).place, length-write y.tape),
      ap length (w y.forest y.tape).bytes ∙ length_at _ _ _ ∙ c.loop-p.invariant.3,
      λ f v h g b. passing-more (c.loop-p.invariant.4 f v h g b) l (λ k i. sym ((rw e at c.same_nodes.ensures) v k g i) ∙ c.if-same_nodes.false) w,
    )

pub put_newest-last-requires : goal.put_newest-last-requires
put_newest-last-requires c = (c.requires.2, c.requires.1, c.requires.4, omega (arith, c.loop-p.invariant.2, c.loop-p.invariant.0, tape-le c.loop-p.invariant.1.tape, c.requires.3, c.requires.5))

pub overflow_sub-result : goal.overflow_sub-result
overflow_sub-result c = tape-le c.requires.1.tape

pub shape_of-out : goal.shape_of-out
shape_of-out c = ap length (c.put_newest-last.ensures.0 c.requires.1.forest c.requires.1.tape).bytes ∙ length_at _ _ _ ∙ c.loop-p.invariant.3

pub returns : goal.returns
returns c f v h g b u = let x = c.loop-p.invariant.4 f v h g b in
    let w = passing-done x c.loop-p-test.false (c.put_newest-last.ensures.0 v g) in
    record { wrote = w.0; count = w.1 ∙ ap (λ z. nodes f + z) (plain-count g u); few = omega arith; near = omega (arith, c.loop-p.invariant.2, c.loop-p.invariant.0, tape-le c.loop-p.invariant.1.tape, c.put_newest-last.ensures.1) }
