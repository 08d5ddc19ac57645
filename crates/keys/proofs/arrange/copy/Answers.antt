-- `copy` meets its contract: the nodes passed stand in the second tape.
use Prim.Native.Nat.{◌+◌, ◌*◌, ◌-◌, ◌≤◌, ◌<◌}
use native.Mathlib.Omega.{arith}
use mathlib.Core.Path.{◌≡◌}
use lib.ListN.{length}
use Rattle.xml.specs.Tape.{next_at}
use Rattle.keys.specs.Copied.{copied_none, copied_more}
use Rattle.keys.proofs.arrange.copy.Goals as goal

pub loop-i-init : goal.loop-i-init
loop-i-init c = let z : c.args.m + (c.args.lo - c.args.lo) ≡ c.args.m = omega arith in rw z (copied_none c.args.tape.now c.args.lo c.args.out.now c.args.m)

pub loop-i-preserved : goal.loop-i-preserved
loop-i-preserved c =
    let i = c.loop-i.i in
    let lo = c.args.lo in
    let to = c.args.m + (i - lo) in
    let room : 2 * to + 1 < length c.loop-i.out = omega (arith, c.loop-i.invariant.size, c.requires.1, c.requires.2) in
    let turn : (i < next_at c.args.tape.now i) × (next_at c.args.tape.now i ≤ c.args.hi) = c.requires.0.next i (omega arith) (omega arith) in
    let z : c.args.m + (i + 1 - lo) ≡ to + 1 = omega arith in
    rw z (copied_more c.args.tape.now lo i c.args.out.now c.args.m to c.loop-i.out c.loop-i.invariant (omega arith) room (next_at c.args.tape.now i - lo + c.args.m) (omega (arith, turn.0)))

pub returns : goal.returns
returns c = let e : c.loop-i.i ≡ c.args.hi = omega (arith, c.requires.0.forward) in rw e at c.loop-i.invariant
