-- `xml::spelling::has_other` meets its contract: one block after the other has none, and then the rest tells it. Assumes nothing.
use Prim.Native.Nat.{◌+◌}
use native.Mathlib.Omega.{arith}
use mathlib.Core.Path.{refl, sym, ◌∙◌, ap}
use mathlib.Core.Bool.{Bool, ◌||◌}
use lib.ListN.{drop}
use Rattle.xml.specs.Neat.{others}
use Rattle.xml.proofs.spelling.has_other.Goals as goal

pub loop-i-init : goal.loop-i-init
loop-i-init c = (omega arith, refl)

pub overflow_sub-src : goal.overflow_sub-src
overflow_sub-src c = omega arith

pub has_other_block-requires : goal.has_other_block-requires
has_other_block-requires c = omega arith

pub returns-then-has_other_block : goal.returns-then-has_other_block
returns-then-has_other_block c = sym (c.loop-i.invariant.1 ∙ c.has_other_block.ensures ∙ ap (λ (x : Bool). x || others (drop (c.loop-i.i + 64) c.args.src.now)) c.if-has_other_block.true)

pub overflow_add-i : goal.overflow_add-i
overflow_add-i c = omega arith

pub loop-i-smaller : goal.loop-i-smaller
loop-i-smaller c = omega arith

pub loop-i-preserved : goal.loop-i-preserved
loop-i-preserved c = (omega arith, c.loop-i.invariant.1 ∙ c.has_other_block.ensures ∙ ap (λ (x : Bool). x || others (drop (c.loop-i.i + 64) c.args.src.now)) c.if-has_other_block.false)

pub returns : goal.returns
returns c = c.has_other_rest.ensures ∙ sym c.loop-i.invariant.1
