-- `timestamp::Timestamp::first_in` meets its contract. The loop's invariant: no word that is passed has a member.
use Prim.Native.Nat.{◌*◌}
use native.Mathlib.Omega.{arith}
use mathlib.Core.Path.{◌≡◌, refl, sym, ap, ◌∙◌}
use lib.ListN.{get_or}
use Rattle.timestamp.specs.Set.{set_of, first_in}
use Rattle.timestamp.specs.First.{pick_held_of, member-none, whole-member, whole-passed, word-is}
use Rattle.timestamp.proofs.Timestamp.first_in.Goals as goal

pub returns-then-w-ne0 : goal.returns-then-w-ne0
returns-then-w-ne0 c = let a = c.args.self.now.words in
    let i = c.loop-i.i in
    rw c.lowest.ensures.0 (whole-member (get_or a i 0) i (word-is a i) (omega arith) c.lowest.ensures.1 c.if-w-ne0.true) ∙ ap pick_held_of (sym c.loop-i.invariant.2)

pub loop-i-preserved : goal.loop-i-preserved
loop-i-preserved c = let a = c.args.self.now.words in
    let i = c.loop-i.i in
    (omega arith, omega arith, c.loop-i.invariant.2 ∙ whole-passed (get_or a i 0) i (word-is a i) (omega arith) c.if-w-ne0.false)

pub returns : goal.returns
unfolding first_in
returns c = let z : c.loop-i.i ≡ 16 = omega arith in
    member-none (set_of c.args.self.now.words) (c.args.k * 64) (c.loop-i.invariant.2 ∙ rw z refl)
