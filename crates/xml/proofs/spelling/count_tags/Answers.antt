-- `xml::spelling::count_tags` meets its contract: what is counted is the count of the nodes below i. Assumes nothing.
use native.Mathlib.Omega.{arith}
use mathlib.Core.Path.{◌≡◌, refl}
use Rattle.xml.specs.Neat.{tags_below}
use Rattle.xml.specs.NeatLaws.{below-text, below-tag}
use Rattle.xml.proofs.spelling.count_tags.Goals.{then-tape-i-eq0, else-tape-i-eq0}
use Rattle.xml.proofs.spelling.count_tags.Goals as goal

pub loop-i-init : goal.loop-i-init
unfolding tags_below
loop-i-init c = (omega arith, omega arith, refl)

pub overflow_add-n : goal.overflow_add-n
overflow_add-n c = elim c.if-tape-i-eq0.branch [ then-tape-i-eq0 w ↦ omega arith | else-tape-i-eq0 w ↦ omega arith ]

pub loop-i-preserved : goal.loop-i-preserved
loop-i-preserved c = elim c.if-tape-i-eq0.branch [
  | then-tape-i-eq0 w ↦ (omega arith, omega arith, omega (arith, c.loop-i.invariant.2, below-text c.args.tape.now c.loop-i.i w.if-tape-i-eq0.true))
  | else-tape-i-eq0 w ↦ (omega arith, omega arith, omega (arith, c.loop-i.invariant.2, below-tag c.args.tape.now c.loop-i.i w.if-tape-i-eq0.false))
]

pub returns : goal.returns
returns c = let e : c.loop-i.i ≡ c.args.hi = omega arith in
    (rw e at c.loop-i.invariant.2, omega arith)
