-- `timestamp::write::put_up_to` meets its contract.
use Prim.Native.Nat.{ℕ, suc, ◌-◌}
use native.Mathlib.Omega.{arith}
use mathlib.Core.Path.{◌≡◌}
use Rattle.xml.specs.OverLaws.{wrote_none}
use Rattle.timestamp.specs.Times.{always, write_run, write_times}
use Rattle.timestamp.specs.TimesLaws.{write-none, write-always}
use Rattle.timestamp.proofs.write.put_up_to.Goals as goal

pub returns-then-k-eq0 : goal.returns-then-k-eq0
unfolding always
returns-then-k-eq0 c = rw (c.if-k-eq0.true, write-none 0) wrote_none

pub returns : goal.returns
returns c = let k : ℕ = c.args.k in
    let e : suc (k - 1) ≡ k = omega (arith, c.if-k-eq0.false) in
    let t : write_times (always k) ≡ write_run (1, k) = rw e at (write-always (k - 1)) in
    rw t c.put_run.ensures
