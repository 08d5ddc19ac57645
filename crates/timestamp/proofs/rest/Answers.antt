-- `timestamp::rest` meets its contract.
use Prim.Native.Nat.{◌+◌, ◌-◌}
use mathlib.Core.Path.{◌≡◌, refl}
use native.Mathlib.Omega.{arith}
use lib.Pow.{shr_lt}
use Rattle.timestamp.proofs.rest.Goals as goal

pub returns : goal.returns
returns c = let j = c.args.j in
    let e : 64 - j + j ≡ 64 = omega arith in
    (refl, shr_lt (64 - j) j (rw e c.ranges.w.fits))
