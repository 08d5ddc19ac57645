-- `write_bare` meets its contract. Assumes nothing.
use Prim.Native.Nat.{◌+◌}
use native.Mathlib.Omega.{arith}
use mathlib.Core.Path.{sym, ◌∙◌, ap}
use Rattle.xml.specs.Forest.{nodes}
use Rattle.xml.specs.TapeLaws.{length-write, tape-le}
use Rattle.versions.specs.TimedLaws.{says-text}
use Rattle.versions.specs.AddFront.{bare-same, bare-other, plain-count}
use Rattle.adding.proofs.content.write_bare.Goals as goal

pub returns-then-same_nodes : goal.returns-then-same_nodes
returns-then-same_nodes c t f v h g u s = let w = bare-same c.args.n t v f (sym (c.same_nodes.ensures v f g h) ∙ c.if-same_nodes.true) (c.write_at-last.ensures f h) in
    record { wrote = w.0; count = w.1; few = omega arith; near = omega (arith, (c.write_at-last.ensures f h).place, length-write h) }

pub overflow_sub-result : goal.overflow_sub-result
overflow_sub-result c = tape-le c.requires.4.tape

pub returns : goal.returns
returns c t f v h g u s = let w = bare-other c.args.n t v f (sym (c.same_nodes.ensures v f g h) ∙ c.if-same_nodes.false) (rw (says-text s (omega (arith, c.requires.5))) at (c.put_within-to.ensures.0 f h)) (c.put_newest-last.ensures.0 v g) in
    record { wrote = w.0; count = w.1 ∙ ap (λ x. nodes f + x) (plain-count g u); few = omega arith; near = omega (arith, c.put_within-to.ensures.1, c.put_newest-last.ensures.1) }
