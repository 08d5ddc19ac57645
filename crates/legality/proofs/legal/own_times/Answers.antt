-- `own_times` meets its contract: a bare sibling, or a `T`.
use Prim.Native.Nat.{◌%◌}
use native.Mathlib.Omega.{arith}
use mathlib.Core.Path.{◌≡◌, refl, sym, ◌∙◌}
use Rattle.xml.specs.Tape.{head_at}
use Rattle.xml.specs.TapeLaws.{front}
use Rattle.versions.specs.Branches.{first}
use Rattle.versions.specs.LegalTimes.{own-text, own_bare, own-crowd, own-timed}
use Rattle.legality.proofs.legal.own_times.Goals as goal

pub view-v-requires : goal.view-v-requires
view-v-requires c = (front c.requires.1.tape c.requires.0).held

pub returns-then-v-eq0 : goal.returns-then-v-eq0
returns-then-v-eq0 c n hi f m o l t = own-text n _ o t l (rw c.view-v.ensures at c.if-v-eq0.true)

pub returns-then-v-eq1 : goal.returns-then-v-eq1
returns-then-v-eq1 c n hi f m o l t = own_bare n _ o _ t l (rw c.view-v.ensures at c.if-v-eq1.true) refl

pub overflow_add-p : goal.overflow_add-p
overflow_add-p c = omega (arith, (front c.requires.1.tape c.requires.0).held)

pub is_sole-requires : goal.is_sole-requires
is_sole-requires c = rw c.view-v.ensures (λ l. (front (first c.requires.1.tape c.requires.0).inside l).held)

pub returns-then-not-is_sole : goal.returns-then-not-is_sole
returns-then-not-is_sole c n hi f m o l t =
    let timed : head_at c.args.doc.now.tape.now c.args.p % 4 ≡ 2 = let v = c.view-v.ensures in omega (arith, rw v at c.if-v-eq0.false, rw v at c.if-v-eq1.false, (front c.requires.1.tape c.requires.0).kind) in
    own-crowd n _ o t l timed (λ k x. sym ((rw c.view-v.ensures at c.is_sole.ensures) _ k x) ∙ c.if-not-is_sole.true)

pub times_fit-requires : goal.times_fit-requires
times_fit-requires c = rw c.view-v.ensures (omega arith, (front c.requires.1.tape c.requires.0).within)

pub returns : goal.returns
returns c n hi f m o l t =
    let timed : head_at c.args.doc.now.tape.now c.args.p % 4 ≡ 2 = let v = c.view-v.ensures in omega (arith, rw v at c.if-v-eq0.false, rw v at c.if-v-eq1.false, (front c.requires.1.tape c.requires.0).kind) in
    own-timed n _ o _ t l timed (λ k x. sym ((rw c.view-v.ensures at c.is_sole.ensures) _ k x) ∙ c.if-not-is_sole.false) (rw c.view-v.ensures at (c.times_fit.ensures n m o))
