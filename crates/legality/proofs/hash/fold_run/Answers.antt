-- `legality::hash::fold_run` meets its contract. The loop's invariant: folding in what is left of the run gives what the whole run gives.
-- Assumes nothing.
use native.Mathlib.Omega.{arith}
use mathlib.Core.Path.{◌≡◌, sym, ◌∙◌, subst}
use Rattle.xml.specs.SignLaws.{Meant, Running, running, sign-means}
use Rattle.versions.specs.Hashes.{mixed, mixed-small, folded-small, fold_more, fold_over}
use Rattle.legality.specs.Folded.{fold-running}
use Rattle.legality.proofs.hash.fold_run.Goals as goal

pub plain_end-i-requires : goal.plain_end-i-requires
plain_end-i-requires c = (c.requires.0, c.requires.1)

pub fold_plain-h-requires : goal.fold_plain-h-requires
fold_plain-h-requires c =
    let first : Running c.args.src.now c.args.a c.args.e c.plain_end-i.result = running c.args.src.now c.args.a c.args.e c.plain_end-i.result c.requires.0 c.requires.1 c.plain_end-i.ensures in
    let g = first in omega (arith, g.forward, g.inside)

pub loop-i-init : goal.loop-i-init
loop-i-init c =
    let first : Running c.args.src.now c.args.a c.args.e c.plain_end-i.result = running c.args.src.now c.args.a c.args.e c.plain_end-i.result c.requires.0 c.requires.1 c.plain_end-i.ensures in
    let g = first in
    rw c.fold_plain-h.ensures (g.inside, folded-small c.args.start _ c.requires.2, fold-running c.args.start g)

pub sign_at-s-requires : goal.sign_at-s-requires
sign_at-s-requires c = (c.loop-i-test.true, c.requires.1)

pub mix-h-requires : goal.mix-h-requires
mix-h-requires c = c.loop-i.invariant.1

pub plain_end-i-requires-in-loop-i : goal.plain_end-i-requires-in-loop-i
plain_end-i-requires-in-loop-i c =
    let meant : Meant c.args.src.now c.loop-i.i c.args.e c.sign_at-s.result = subst (λ g. Meant c.args.src.now c.loop-i.i c.args.e g) (sym c.sign_at-s.ensures) (sign-means c.args.src.now c.loop-i.i c.args.e c.loop-i-test.true c.requires.1) in
    (meant.inside, c.requires.1)

pub fold_plain-h-requires-in-loop-i : goal.fold_plain-h-requires-in-loop-i
fold_plain-h-requires-in-loop-i c =
    let meant : Meant c.args.src.now c.loop-i.i c.args.e c.sign_at-s.result = subst (λ g. Meant c.args.src.now c.loop-i.i c.args.e g) (sym c.sign_at-s.ensures) (sign-means c.args.src.now c.loop-i.i c.args.e c.loop-i-test.true c.requires.1) in
    let more : Running c.args.src.now c.sign_at-s.result.next c.args.e c.plain_end-i-in-loop-i.result = running c.args.src.now c.sign_at-s.result.next c.args.e c.plain_end-i-in-loop-i.result (meant).inside c.requires.1 c.plain_end-i-in-loop-i.ensures in
    let g = more in
    rw c.mix-h.ensures (g.forward, omega (arith, g.inside, c.requires.1), mixed-small c.loop-i.h c.sign_at-s.result.byte)

pub loop-i-smaller : goal.loop-i-smaller
loop-i-smaller c =
    let meant : Meant c.args.src.now c.loop-i.i c.args.e c.sign_at-s.result = subst (λ g. Meant c.args.src.now c.loop-i.i c.args.e g) (sym c.sign_at-s.ensures) (sign-means c.args.src.now c.loop-i.i c.args.e c.loop-i-test.true c.requires.1) in
    let more : Running c.args.src.now c.sign_at-s.result.next c.args.e c.plain_end-i-in-loop-i.result = running c.args.src.now c.sign_at-s.result.next c.args.e c.plain_end-i-in-loop-i.result (meant).inside c.requires.1 c.plain_end-i-in-loop-i.ensures in
    let g = more in
    omega (arith, meant.forward, g.forward, g.inside)

pub loop-i-preserved : goal.loop-i-preserved
loop-i-preserved c =
    let meant : Meant c.args.src.now c.loop-i.i c.args.e c.sign_at-s.result = subst (λ g. Meant c.args.src.now c.loop-i.i c.args.e g) (sym c.sign_at-s.ensures) (sign-means c.args.src.now c.loop-i.i c.args.e c.loop-i-test.true c.requires.1) in
    let more : Running c.args.src.now c.sign_at-s.result.next c.args.e c.plain_end-i-in-loop-i.result = running c.args.src.now c.sign_at-s.result.next c.args.e c.plain_end-i-in-loop-i.result (meant).inside c.requires.1 c.plain_end-i-in-loop-i.ensures in
    let g = more in
    let h = c.loop-i.h in
    let m = mixed h c.sign_at-s.result.byte in
    rw (c.fold_plain-h-in-loop-i.ensures, c.mix-h.ensures)
    (g.inside, folded-small m _ (mixed-small h c.sign_at-s.result.byte), c.loop-i.invariant.2 ∙ fold_more h meant ∙ fold-running m g)

pub returns : goal.returns
returns c = let a = c.args in
    let done : c.loop-i.i ≡ a.e = omega arith in
    sym (c.loop-i.invariant.2 ∙ rw done (fold_over a.src.now a.e c.loop-i.h))
