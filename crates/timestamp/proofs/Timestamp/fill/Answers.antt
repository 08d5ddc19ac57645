-- `timestamp::Timestamp::fill` meets its contract. The loop's invariant: the words before k have their numbers (`Filling`).
use Prim.Native.Nat.{◌/◌, ◌%◌}
use mathlib.Core.Path.{◌≡◌, refl, ◌∙◌}
use native.Mathlib.Omega.{arith}
use borrow.Author.Rules.{rules}
use lib.ListN.{length}
use Rattle.timestamp.specs.Words.{bits-run, filling-none, filling-or, filling-ones, filling-all}
use Rattle.timestamp.proofs.Timestamp.fill.Goals as goal

pub returns-then-first-last : goal.returns-then-first-last
returns-then-first-last c =
    let a = c.args in
    let size : length a.self.now.words ≡ 16 = search rules in
    let p = filling-or (omega arith) (omega arith) (c.bits.ensures ∙ bits-run a.lo a.hi (a.lo / 64) _ _ (omega arith) (omega (arith, c.if-first-last.true))) (filling-none a.self.now.words a.lo a.hi size) in
    (filling-all a.lo a.hi p (omega (arith, c.if-first-last.true)), p.size)

pub loop-k-init : goal.loop-k-init
loop-k-init c =
    let a = c.args in
    let size : length a.self.now.words ≡ 16 = search rules in (
      omega arith,
      omega (arith, c.if-first-last.false),
      filling-or (omega arith) (omega arith) (c.bits-2.ensures ∙ bits-run a.lo a.hi (a.lo / 64) (a.lo % 64) 63 (omega arith) (omega (arith, c.if-first-last.false))) (filling-none a.self.now.words a.lo a.hi size),
    )

pub loop-k-preserved : goal.loop-k-preserved
loop-k-preserved c = let i = c.loop-k.invariant in (omega arith, omega arith, filling-ones (omega arith) (omega arith) (omega arith) i.2)

pub returns : goal.returns
returns c =
    let a = c.args in
    let i = c.loop-k.invariant in
    let e : c.loop-k.k ≡ a.hi / 64 = omega arith in
    let p = filling-or (omega arith) (omega arith) (c.bits-3.ensures ∙ bits-run a.lo a.hi (a.hi / 64) 0 (a.hi % 64) (omega (arith, i.0)) (omega arith)) (rw e at i.2) in
    (filling-all a.lo a.hi p refl, p.size)
