-- `legality::few::are_few` meets its contract. The loop's invariant: k siblings are passed. Assumes nothing.
use Prim.Native.Nat.{ℕ, ◌+◌}
use native.Mathlib.Omega.{arith}
use mathlib.Core.Path.{◌≡◌, sym, ◌∙◌, ap}
use borrow.Author.Tests.{le-leb, lt-leb}
use Rattle.xml.specs.TapeLaws.{front, split, tape-le, tape-one}
use Rattle.legality.specs.Few.{siblings, siblings-none, siblings-more}
use Rattle.legality.proofs.few.are_few.Goals as goal

step : (k a b : ℕ) → a ≡ 1 + b → k + a ≡ k + 1 + b
step k a b e = omega (arith, e)

pub loop-p-init : goal.loop-p-init
loop-p-init c = (omega arith, c.requires, λ f g t u. let e : siblings f ≡ siblings g = ap siblings (tape-one t u) in omega (arith, e))

pub returns-then-k-eq4 : goal.returns-then-k-eq4
returns-then-k-eq4 c f t = let i = c.loop-p.invariant in let s = split i.1.tape c.loop-p-test.true in sym (lt-leb (siblings f) 4 (omega (arith, c.if-k-eq4.true, i.2 f i.1.forest t i.1.tape, siblings-more i.1.tape c.loop-p-test.true s.after)))

pub view-p-requires : goal.view-p-requires
view-p-requires c = (front c.loop-p.invariant.1.tape c.loop-p-test.true).held

pub overflow_add-k : goal.overflow_add-k
overflow_add-k c = omega (arith, c.loop-p.invariant.0)

pub loop-p-smaller : goal.loop-p-smaller
loop-p-smaller c = let w = front c.loop-p.invariant.1.tape c.loop-p-test.true in rw c.view-p.ensures (omega (arith, w.forward, w.inside))

pub loop-p-preserved : goal.loop-p-preserved
loop-p-preserved c = let i = c.loop-p.invariant in let s = split i.1.tape c.loop-p-test.true in rw c.view-p.ensures (omega (arith, i.0, c.if-k-eq4.false), record { forest = s.rest; tape = s.after }, λ f g t u. i.2 f i.1.forest t i.1.tape ∙ step _ _ _ (siblings-more i.1.tape c.loop-p-test.true u))

pub returns : goal.returns
returns c f t = let i = c.loop-p.invariant in let e : c.args.hi ≡ c.loop-p.p = omega (arith, c.loop-p-test.false, tape-le i.1.tape) in sym (le-leb (siblings f) 4 (omega (arith, i.0, i.2 f i.1.forest t i.1.tape, siblings-none (rw e at i.1.tape))))
