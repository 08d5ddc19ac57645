-- `xml::matching::match_text` meets its contract: what is left of the run is to stand at the place where the loop has come to. Assumes nothing.
use native.Mathlib.Omega.{arith}
use mathlib.Core.Path.{◌≡◌, sym, ◌∙◌, subst}
use Rattle.xml.specs.MatchingLaws.{match-fits, match_none, match-on}
use Rattle.xml.specs.SignLaws.{Meant, Running, running, sign-means, spelt-over, spelt-sign}
use Rattle.xml.proofs.matching.match_text.Goals as goal

pub plain_end-i-requires : goal.plain_end-i-requires
plain_end-i-requires c = (c.requires.2, c.requires.3)

pub match_part-to-requires : goal.match_part-to-requires
match_part-to-requires c =
    let first : Running c.args.src.now c.args.a c.args.e c.plain_end-i.result = let a = c.args in running a.src.now a.a a.e c.plain_end-i.result c.requires.2 c.requires.3 c.plain_end-i.ensures in
    let g = first in let h = c.requires in (h.0, h.1, g.forward, omega (arith, g.inside, h.3))

pub loop-i-init : goal.loop-i-init
loop-i-init c =
    let first : Running c.args.src.now c.args.a c.args.e c.plain_end-i.result = let a = c.args in running a.src.now a.a a.e c.plain_end-i.result c.requires.2 c.requires.3 c.plain_end-i.ensures in
    let a = c.args in
    let g = first in
    let m = c.match_part-to.ensures in
    (g.inside, match-fits a.src.now a.at _ m c.requires.0, match-on a.src.now a.at _ _ g.written m)

pub sign_at-s-requires : goal.sign_at-s-requires
sign_at-s-requires c = (c.loop-i-test.true, c.requires.3)

pub match_escaped-to-requires : goal.match_escaped-to-requires
match_escaped-to-requires c = (c.loop-i.invariant.1, c.requires.1)

pub plain_end-i-requires-in-loop-i : goal.plain_end-i-requires-in-loop-i
plain_end-i-requires-in-loop-i c =
    let meant : Meant c.args.src.now c.loop-i.i c.args.e c.sign_at-s.result = let a = c.args in subst (λ g. Meant a.src.now c.loop-i.i a.e g) (sym c.sign_at-s.ensures) (sign-means a.src.now c.loop-i.i a.e c.loop-i-test.true c.requires.3) in
    (meant.inside, c.requires.3)

pub match_part-to-requires-in-loop-i : goal.match_part-to-requires-in-loop-i
match_part-to-requires-in-loop-i c =
    let meant : Meant c.args.src.now c.loop-i.i c.args.e c.sign_at-s.result = let a = c.args in subst (λ g. Meant a.src.now c.loop-i.i a.e g) (sym c.sign_at-s.ensures) (sign-means a.src.now c.loop-i.i a.e c.loop-i-test.true c.requires.3) in
    let more : Running c.args.src.now c.sign_at-s.result.next c.args.e c.plain_end-i-in-loop-i.result = let a = c.args in running a.src.now c.sign_at-s.result.next a.e c.plain_end-i-in-loop-i.result (meant).inside c.requires.3 c.plain_end-i-in-loop-i.ensures in
    let g = more in
    let h = c.requires in
    (match-fits c.args.src.now c.loop-i.to _ c.match_escaped-to.ensures c.loop-i.invariant.1, h.1, g.forward, omega (arith, g.inside, h.3))

pub loop-i-smaller : goal.loop-i-smaller
loop-i-smaller c =
    let meant : Meant c.args.src.now c.loop-i.i c.args.e c.sign_at-s.result = let a = c.args in subst (λ g. Meant a.src.now c.loop-i.i a.e g) (sym c.sign_at-s.ensures) (sign-means a.src.now c.loop-i.i a.e c.loop-i-test.true c.requires.3) in
    let more : Running c.args.src.now c.sign_at-s.result.next c.args.e c.plain_end-i-in-loop-i.result = let a = c.args in running a.src.now c.sign_at-s.result.next a.e c.plain_end-i-in-loop-i.result (meant).inside c.requires.3 c.plain_end-i-in-loop-i.ensures in
    let g = more in omega (arith, meant.forward, g.forward, g.inside)

pub loop-i-preserved : goal.loop-i-preserved
loop-i-preserved c =
    let meant : Meant c.args.src.now c.loop-i.i c.args.e c.sign_at-s.result = let a = c.args in subst (λ g. Meant a.src.now c.loop-i.i a.e g) (sym c.sign_at-s.ensures) (sign-means a.src.now c.loop-i.i a.e c.loop-i-test.true c.requires.3) in
    let more : Running c.args.src.now c.sign_at-s.result.next c.args.e c.plain_end-i-in-loop-i.result = let a = c.args in running a.src.now c.sign_at-s.result.next a.e c.plain_end-i-in-loop-i.result (meant).inside c.requires.3 c.plain_end-i-in-loop-i.ensures in
    let s = c.args.src.now in
    let l = c.loop-i in
    let k = c.match_escaped-to.ensures in
    let n = c.match_part-to-in-loop-i.ensures in
    let g = more in
    (g.inside, match-fits s c.match_escaped-to.result _ n (match-fits s l.to _ k l.invariant.1), l.invariant.2 ∙ match-on s l.to _ _ (spelt-sign meant) k ∙ match-on s c.match_escaped-to.result _ _ g.written n)

pub returns : goal.returns
returns c = let a = c.args in
    let l = c.loop-i in
    let done : l.i ≡ a.e = omega arith in
    sym (l.invariant.2 ∙ rw (done, spelt-over a.src.now a.e) (match_none a.src.now l.to))
