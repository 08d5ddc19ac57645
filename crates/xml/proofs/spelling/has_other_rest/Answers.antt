-- `xml::spelling::has_other_rest` meets its contract: what the rest has is what all have. Assumes nothing.
use Prim.Native.Nat.{◌+◌}
use native.Mathlib.Omega.{arith}
use mathlib.Core.Path.{◌≡◌, refl, sym, ◌∙◌, ap}
use mathlib.Core.Bool.{Bool, ◌||◌}
use lib.ListN.{drop}
use Rattle.xml.specs.Neat.{others}
use Rattle.xml.specs.NeatLaws.{others-next, others-over}
use Rattle.xml.proofs.spelling.has_other_rest.Goals as goal

pub loop-i-init : goal.loop-i-init
loop-i-init c = refl

pub returns-then-is_other : goal.returns-then-is_other
returns-then-is_other c =
    let told : others (drop c.args.at c.args.src.now) ≡ (c.is_other.result || others (drop (c.loop-i.i + 1) c.args.src.now)) = c.loop-i.invariant ∙ others-next c.args.src.now c.loop-i.i (omega arith) c.is_other.ensures c.byte_at.ensures c.byte_at-in-loop-i.ensures in
    sym (told ∙ ap (λ (x : Bool). x || others (drop (c.loop-i.i + 1) c.args.src.now)) c.if-is_other.true)

pub loop-i-preserved : goal.loop-i-preserved
loop-i-preserved c =
    let told : others (drop c.args.at c.args.src.now) ≡ (c.is_other.result || others (drop (c.loop-i.i + 1) c.args.src.now)) = c.loop-i.invariant ∙ others-next c.args.src.now c.loop-i.i (omega arith) c.is_other.ensures c.byte_at.ensures c.byte_at-in-loop-i.ensures in
    told ∙ ap (λ (x : Bool). x || others (drop (c.loop-i.i + 1) c.args.src.now)) c.if-is_other.false

pub returns : goal.returns
returns c = sym (c.loop-i.invariant ∙ others-over c.args.src.now c.loop-i.i (omega arith))
