-- `xml::compare::same_run` meets its contract: the runs mean the same where what is left of them does. Assumes nothing.
use native.Mathlib.Omega.{arith}
use mathlib.Core.Path.{◌≡◌, ap₂, sym, ◌∙◌, subst}
use lib.ListN.{length}
use lib.Seq.{take-length}
use Rattle.xml.specs.Bytes.{Bytes, same}
use Rattle.xml.specs.Read.{unescape}
use Rattle.xml.specs.SignLaws.{Meant, sign-means}
use Rattle.xml.specs.CompareLaws.{run_more, run-other, run-left, run_ends}
use Rattle.xml.proofs.compare.same_run.Goals as goal

pub returns-then-ends_differ : goal.returns-then-ends_differ
returns-then-ends_differ c = sym (c.ends_differ.ensures c.if-ends_differ.true)

pub loop-i-init : goal.loop-i-init
loop-i-init c = (omega arith, omega arith, sym (ap₂ (λ (x y : Bytes). same (unescape 0 x) (unescape 0 y)) (take-length c.args.run1.now) (take-length c.args.run2.now)))

pub returns-then-run2-j : goal.returns-then-run2-j
returns-then-run2-j c = let a = c.args.run1.now in
    let b = c.args.run2.now in
    let over : c.loop-i.j ≡ length b = omega arith in
    sym (c.loop-i.invariant.2 ∙ rw over (run-left b (length b) (sign-means a c.loop-i.i (length a) c.loop-i-test.true (omega arith))))

pub sign_at-s-requires : goal.sign_at-s-requires
sign_at-s-requires c = (c.loop-i-test.true, (omega arith))

pub sign_at-t-requires : goal.sign_at-t-requires
sign_at-t-requires c = (omega arith, (omega arith))

pub returns-then-s-t : goal.returns-then-s-t
returns-then-s-t c =
    let left : Meant c.args.run1.now c.loop-i.i (length c.args.run1.now) c.sign_at-s.result = subst (λ g. Meant c.args.run1.now c.loop-i.i (length c.args.run1.now) g) (sym c.sign_at-s.ensures) (sign-means c.args.run1.now c.loop-i.i (length c.args.run1.now) c.loop-i-test.true (omega arith)) in
    let right : Meant c.args.run2.now c.loop-i.j (length c.args.run2.now) c.sign_at-t.result = subst (λ g. Meant c.args.run2.now c.loop-i.j (length c.args.run2.now) g) (sym c.sign_at-t.ensures) (sign-means c.args.run2.now c.loop-i.j (length c.args.run2.now) (omega arith) (omega arith)) in
    sym (c.loop-i.invariant.2 ∙ run-other left right c.if-s-t.true)

pub alike_len-more-requires : goal.alike_len-more-requires
alike_len-more-requires c =
    let left : Meant c.args.run1.now c.loop-i.i (length c.args.run1.now) c.sign_at-s.result = subst (λ g. Meant c.args.run1.now c.loop-i.i (length c.args.run1.now) g) (sym c.sign_at-s.ensures) (sign-means c.args.run1.now c.loop-i.i (length c.args.run1.now) c.loop-i-test.true (omega arith)) in
    let right : Meant c.args.run2.now c.loop-i.j (length c.args.run2.now) c.sign_at-t.result = subst (λ g. Meant c.args.run2.now c.loop-i.j (length c.args.run2.now) g) (sym c.sign_at-t.ensures) (sign-means c.args.run2.now c.loop-i.j (length c.args.run2.now) (omega arith) (omega arith)) in
    record { le₁ = left.inside; in₁ = omega arith; le₂ = right.inside; in₂ = omega arith }

pub overflow_add-i : goal.overflow_add-i
overflow_add-i c = omega (arith, c.alike_len-more.ensures.in₁)

pub overflow_add-j : goal.overflow_add-j
overflow_add-j c = omega (arith, c.alike_len-more.ensures.in₂)

pub loop-i-smaller : goal.loop-i-smaller
loop-i-smaller c =
    let left : Meant c.args.run1.now c.loop-i.i (length c.args.run1.now) c.sign_at-s.result = subst (λ g. Meant c.args.run1.now c.loop-i.i (length c.args.run1.now) g) (sym c.sign_at-s.ensures) (sign-means c.args.run1.now c.loop-i.i (length c.args.run1.now) c.loop-i-test.true (omega arith)) in
    omega (arith, c.alike_len-more.ensures.in₁, left.forward, left.inside)

pub loop-i-preserved : goal.loop-i-preserved
loop-i-preserved c =
    let left : Meant c.args.run1.now c.loop-i.i (length c.args.run1.now) c.sign_at-s.result = subst (λ g. Meant c.args.run1.now c.loop-i.i (length c.args.run1.now) g) (sym c.sign_at-s.ensures) (sign-means c.args.run1.now c.loop-i.i (length c.args.run1.now) c.loop-i-test.true (omega arith)) in
    let right : Meant c.args.run2.now c.loop-i.j (length c.args.run2.now) c.sign_at-t.result = subst (λ g. Meant c.args.run2.now c.loop-i.j (length c.args.run2.now) g) (sym c.sign_at-t.ensures) (sign-means c.args.run2.now c.loop-i.j (length c.args.run2.now) (omega arith) (omega arith)) in
    let o = c.alike_len-more.ensures in
    (o.in₁, o.in₂, c.loop-i.invariant.2 ∙ run_more left right c.if-s-t.false ∙ o.means)

pub returns : goal.returns
returns c = let a = c.args.run1.now in
    let b = c.args.run2.now in
    let done : c.loop-i.i ≡ length a = omega arith in
    run_ends a (length a) b c.loop-i.j (length b) c.loop-i.invariant.1 (omega arith) ∙ sym (rw done at c.loop-i.invariant.2)
