-- `xml::spelling::has_other_block` meets its contract: what is found, or what the rest has, is what all have. Assumes nothing.
use Prim.Native.Nat.{ℕ, ◌+◌}
use native.Mathlib.Omega.{arith}
use mathlib.Core.Path.{◌≡◌, refl, sym, ◌∙◌, ap}
use mathlib.Core.Bool.{Bool, ◌||◌, or_assoc}
use lib.ListN.{drop}
use Rattle.xml.specs.Neat.{others}
use Rattle.xml.specs.NeatLaws.{others-next}
use Rattle.xml.proofs.spelling.has_other_block.Goals as goal

pub loop-i-init : goal.loop-i-init
loop-i-init c = let e : c.args.at + 0 ≡ c.args.at = omega arith in
    (omega arith, rw e refl)

pub overflow_add-at : goal.overflow_add-at
overflow_add-at c = omega arith

pub bounds-src-at : goal.bounds-src-at
bounds-src-at c = omega arith

pub overflow_add-at-in-loop-i : goal.overflow_add-at-in-loop-i
overflow_add-at-in-loop-i c = omega arith

pub overflow_add-at-in-loop-i-2 : goal.overflow_add-at-in-loop-i-2
overflow_add-at-in-loop-i-2 c = omega arith

pub bounds-src-at-in-loop-i : goal.bounds-src-at-in-loop-i
bounds-src-at-in-loop-i c = omega arith

pub overflow_add-at-in-loop-i-3 : goal.overflow_add-at-in-loop-i-3
overflow_add-at-in-loop-i-3 c = omega arith

pub overflow_add-at-in-loop-i-4 : goal.overflow_add-at-in-loop-i-4
overflow_add-at-in-loop-i-4 c = omega arith

pub bounds-src-at-in-loop-i-2 : goal.bounds-src-at-in-loop-i-2
bounds-src-at-in-loop-i-2 c = omega arith

pub overflow_step-i : goal.overflow_step-i
overflow_step-i c = omega arith

pub loop-i-smaller : goal.loop-i-smaller
loop-i-smaller c = omega arith

pub loop-i-preserved : goal.loop-i-preserved
loop-i-preserved c = let s = c.args.src.now in
    let j : ℕ = c.args.at + c.loop-i.i in
    let e : c.args.at + (c.loop-i.i + 1) ≡ j + 1 = omega arith in (
      omega arith,
      rw e
          (c.loop-i.invariant.1 ∙ ap (λ (x : Bool). c.loop-i.odd || x) (others-next s j (omega arith) c.is_other-odd.ensures refl refl)
          ∙ sym (or_assoc c.loop-i.odd c.is_other-odd.result (others (drop (j + 1) s)))),
    )

pub returns : goal.returns
returns c = let e : c.loop-i.i ≡ 64 = omega arith in
    rw e at c.loop-i.invariant.1
