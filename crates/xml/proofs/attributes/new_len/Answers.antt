-- `xml::attributes::new_len` meets its contract. The invariant: n bytes begin a new name, and stand in the array. Assumes nothing.
use native.Mathlib.Omega.{arith}
use mathlib.Core.Path.{◌≡◌, refl, sym, ◌∙◌}
use lib.ListN.{length-set}
use Rattle.xml.specs.FreshNames.{count-start, count-end, count-full, count-stop, count-more}
use Rattle.xml.proofs.attributes.new_len.Goals as goal

pub loop-n-init : goal.loop-n-init
loop-n-init c = (omega arith, omega (arith, c.requires.2), refl, λ used h. count-start)

pub returns-then-at-n : goal.returns-then-at-n
returns-then-at-n c = λ used h. sym (count-end (c.loop-n.invariant.3 used h) (omega (arith, c.if-at-n.true)))

pub is_fresh-requires : goal.is_fresh-requires
is_fresh-requires c = (c.requires.0, c.requires.1, omega (arith, c.loop-n-test.true))

pub returns-then-not-is_fresh : goal.returns-then-not-is_fresh
returns-then-not-is_fresh c = λ used h.
    sym (count-stop (c.loop-n.invariant.3 used h) c.loop-n-test.true (omega (arith, c.loop-n.invariant.1, c.if-at-n.false)) _ (c.is_fresh.ensures used h) (omega (arith, c.loop-n.invariant.2, c.loop-n-test.true)) c.if-not-is_fresh.true)

pub loop-n-preserved : goal.loop-n-preserved
loop-n-preserved c = (
  omega (arith, c.loop-n-test.true),
  omega (arith, c.loop-n.invariant.1, c.if-at-n.false),
  simp length-set c.loop-n.invariant.2,
  λ used h. count-more (c.loop-n.invariant.3 used h) c.loop-n-test.true (omega (arith, c.loop-n.invariant.1, c.if-at-n.false)) _ (c.is_fresh.ensures used h) (omega (arith, c.loop-n.invariant.2, c.loop-n-test.true)) c.if-not-is_fresh.false,
)

pub returns : goal.returns
returns c = let e : c.loop-n.n ≡ 32 = omega (arith, c.loop-n.invariant.0, c.loop-n-test.false) in
    λ used h. sym e ∙ sym (count-full (c.loop-n.invariant.3 used h) (omega (arith, c.loop-n-test.false)))
