-- `write_contents` meets its contract: the first node says whether there is one content or more. Assumes nothing.
use mathlib.Core.Path.{◌≡◌, sym, ◌∙◌}
use lib.Dec.{ltb}
use borrow.Author.Tests.{ltb-true, eqb-true, lt-ltb, eq-eqb}
use Prim.Native.Nat.{◌%◌, ◌<◌}
use Rattle.xml.specs.Tape.{head_at}
use Rattle.xml.specs.TapeLaws.{front}
use Rattle.xml.specs.Truth.{clash, and_left, and_right, and_both}
use Rattle.versions.specs.AddFront.{front-valid, front-branches, content-bare, content-timed}
use Rattle.adding.proofs.content.write_contents.Goals as goal

pub is_branched-requires : goal.is_branched-requires
is_branched-requires c = λ l. (front c.requires.0.tape l).held

pub write_branches-requires : goal.write_branches-requires
write_branches-requires c =
    let branched : (c.args.lo < c.args.hi) × (head_at c.args.archive.now.tape.now c.args.lo % 4 ≡ 2) = let e = sym c.is_branched.ensures ∙ c.if-is_branched.true in (ltb-true c.args.lo c.args.hi (and_left _ _ e), eqb-true (head_at c.args.archive.now.tape.now c.args.lo % 4) 2 (and_right (ltb c.args.lo c.args.hi) _ e)) in
    (front-branches c.requires.0 branched.0 branched.1, c.requires.4, c.requires.5, c.requires.6, c.requires.7, c.requires.8)

pub returns-then-is_branched : goal.returns-then-is_branched
returns-then-is_branched c t f v h g b u s =
    let branched : (c.args.lo < c.args.hi) × (head_at c.args.archive.now.tape.now c.args.lo % 4 ≡ 2) = let e = sym c.is_branched.ensures ∙ c.if-is_branched.true in (ltb-true c.args.lo c.args.hi (and_left _ _ e), eqb-true (head_at c.args.archive.now.tape.now c.args.lo % 4) 2 (and_right (ltb c.args.lo c.args.hi) _ e)) in
    let x = content-timed c.args.n t v h branched.0 branched.1 b in rw x.0 (c.write_branches.ensures f v h g x.1 u)

pub write_bare-requires : goal.write_bare-requires
write_bare-requires c = (front-valid c.requires.0, c.requires.1, c.requires.2, c.requires.3, c.requires.4, c.requires.5, c.requires.6, c.requires.7, c.requires.8)

pub returns : goal.returns
returns c t f v h g b u s = rw (content-bare c.args.n t v h (λ l k. clash (sym (and_both _ _ (lt-ltb c.args.lo c.args.hi l) (eq-eqb _ 2 k)) ∙ sym c.is_branched.ensures ∙ c.if-is_branched.false))) (c.write_bare.ensures t f v h g u s)
