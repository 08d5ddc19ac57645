-- `xml::compare::same_nodes` meets its contract: the nodes passed agree; where two do not, the forests differ (SameTapes). Assumes nothing.
use Prim.Native.Nat.{◌<◌}
use native.Mathlib.Omega.{arith}
use mathlib.Core.Path.{◌≡◌, sym, ◌∙◌}
use Rattle.xml.specs.BytesLaws.{same-is}
use Rattle.xml.specs.TapeLaws.{tape-le}
use Rattle.xml.specs.SameTapes.{At, tape-at, agree-more, apart, apart-size, together, same_not}
use Rattle.xml.proofs.compare.same_nodes.Goals as goal

pub overflow_sub-hi1 : goal.overflow_sub-hi1
overflow_sub-hi1 c = tape-le c.requires.0.tape

pub overflow_sub-hi2 : goal.overflow_sub-hi2
overflow_sub-hi2 c = tape-le c.requires.1.tape

pub returns-then-hi1-lo1 : goal.returns-then-hi1-lo1
returns-then-hi1-lo1 c f g x y = sym (apart-size x y c.if-hi1-lo1.true)

pub loop-i-init : goal.loop-i-init
loop-i-init c = (omega arith, tape-le c.requires.0.tape, omega arith, omega arith, λ i j h l t b. absurd (omega arith))

pub view-v-requires : goal.view-v-requires
view-v-requires c =
    let left : At c.args.doc1.now.src.now c.args.doc1.now.tape.now c.loop-i.i = tape-at c.loop-i.i c.requires.0.tape c.loop-i.invariant.0 c.loop-i-test.true in
    left.held

pub view-w-requires : goal.view-w-requires
view-w-requires c =
    let other : c.loop-i.j < c.args.hi2 = omega (arith, c.loop-i-test.true, c.if-hi1-lo1.false, c.loop-i.invariant.0, c.loop-i.invariant.2, c.loop-i.invariant.3, tape-le c.requires.0.tape, tape-le c.requires.1.tape) in
    let right : At c.args.doc2.now.src.now c.args.doc2.now.tape.now c.loop-i.j = tape-at c.loop-i.j c.requires.1.tape c.loop-i.invariant.2 (other) in
    right.held

pub returns-then-v-w : goal.returns-then-v-w
returns-then-v-w c f g x y = let differs = rw (c.view-v.ensures, c.view-w.ensures) at c.if-v-w.true in
    sym (apart x y c.loop-i.i c.loop-i.j c.loop-i.invariant.0 c.loop-i-test.true c.loop-i.invariant.2 c.loop-i.invariant.3 (λ a. differs a.kind))

pub overflow_sub-v : goal.overflow_sub-v
overflow_sub-v c =
    let left : At c.args.doc1.now.src.now c.args.doc1.now.tape.now c.loop-i.i = tape-at c.loop-i.i c.requires.0.tape c.loop-i.invariant.0 c.loop-i-test.true in
    rw c.view-v.ensures (omega (arith, left.forward))

pub overflow_sub-w : goal.overflow_sub-w
overflow_sub-w c =
    let other : c.loop-i.j < c.args.hi2 = omega (arith, c.loop-i-test.true, c.if-hi1-lo1.false, c.loop-i.invariant.0, c.loop-i.invariant.2, c.loop-i.invariant.3, tape-le c.requires.0.tape, tape-le c.requires.1.tape) in
    let right : At c.args.doc2.now.src.now c.args.doc2.now.tape.now c.loop-i.j = tape-at c.loop-i.j c.requires.1.tape c.loop-i.invariant.2 (other) in
    rw c.view-w.ensures (omega (arith, right.forward))

pub returns-then-v-i : goal.returns-then-v-i
returns-then-v-i c f g x y = let differs = rw (c.view-v.ensures, c.view-w.ensures) at c.if-v-i.true in
    sym (apart x y c.loop-i.i c.loop-i.j c.loop-i.invariant.0 c.loop-i-test.true c.loop-i.invariant.2 c.loop-i.invariant.3 (λ a. differs a.far))

pub part-requires : goal.part-requires
part-requires c =
    let left : At c.args.doc1.now.src.now c.args.doc1.now.tape.now c.loop-i.i = tape-at c.loop-i.i c.requires.0.tape c.loop-i.invariant.0 c.loop-i-test.true in
    rw c.view-v.ensures (omega arith, left.within)

pub part-requires-in-loop-i : goal.part-requires-in-loop-i
part-requires-in-loop-i c =
    let left : At c.args.doc1.now.src.now c.args.doc1.now.tape.now c.loop-i.i = tape-at c.loop-i.i c.requires.0.tape c.loop-i.invariant.0 c.loop-i-test.true in
    let other : c.loop-i.j < c.args.hi2 = omega (arith, c.loop-i-test.true, c.if-hi1-lo1.false, c.loop-i.invariant.0, c.loop-i.invariant.2, c.loop-i.invariant.3, tape-le c.requires.0.tape, tape-le c.requires.1.tape) in
    let right : At c.args.doc2.now.src.now c.args.doc2.now.tape.now c.loop-i.j = tape-at c.loop-i.j c.requires.1.tape c.loop-i.invariant.2 (other) in
    rw c.view-w.ensures (omega arith, right.within)

pub returns-then-not-same_meaning : goal.returns-then-not-same_meaning
returns-then-not-same_meaning c f g x y = let test = rw (c.part.ensures, c.part-in-loop-i.ensures, c.view-v.ensures, c.view-w.ensures) at c.same_meaning.ensures in
    sym (apart x y c.loop-i.i c.loop-i.j c.loop-i.invariant.0 c.loop-i-test.true c.loop-i.invariant.2 c.loop-i.invariant.3 (λ a. same_not _ _ (sym test ∙ c.if-not-same_meaning.true) a.says))

pub overflow_add-i : goal.overflow_add-i
overflow_add-i c =
    let left : At c.args.doc1.now.src.now c.args.doc1.now.tape.now c.loop-i.i = tape-at c.loop-i.i c.requires.0.tape c.loop-i.invariant.0 c.loop-i-test.true in
    omega (arith, c.ranges, c.well_formed, left.held)

pub overflow_add-j : goal.overflow_add-j
overflow_add-j c =
    let other : c.loop-i.j < c.args.hi2 = omega (arith, c.loop-i-test.true, c.if-hi1-lo1.false, c.loop-i.invariant.0, c.loop-i.invariant.2, c.loop-i.invariant.3, tape-le c.requires.0.tape, tape-le c.requires.1.tape) in
    let right : At c.args.doc2.now.src.now c.args.doc2.now.tape.now c.loop-i.j = tape-at c.loop-i.j c.requires.1.tape c.loop-i.invariant.2 (other) in
    omega (arith, c.ranges, c.well_formed, right.held)

pub loop-i-smaller : goal.loop-i-smaller
loop-i-smaller c = omega arith

pub loop-i-preserved : goal.loop-i-preserved
loop-i-preserved c = let v = c.view-v.ensures in
    let w = c.view-w.ensures in
    let test = rw (c.part.ensures, c.part-in-loop-i.ensures, v, w) at c.same_meaning.ensures in (
      omega (arith, c.loop-i.invariant.0),
      omega arith,
      omega (arith, c.loop-i.invariant.2),
      omega (arith, c.loop-i.invariant.3),
      agree-more c.loop-i.i c.loop-i.j c.loop-i.invariant.2 c.loop-i.invariant.3 c.loop-i.invariant.4
          (record { kind = rw (v, w) at c.if-v-w.false; far = rw (v, w) at c.if-v-i.false; says = same-is _ _ (sym test ∙ c.if-not-same_meaning.false) }),
    )

pub returns : goal.returns
returns c f g x y = let done : c.loop-i.i ≡ c.args.hi1 = omega arith in
    sym (together x y c.if-hi1-lo1.false (rw done at c.loop-i.invariant.4))
