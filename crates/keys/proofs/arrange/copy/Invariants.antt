-- `copy` meets its contract: the nodes passed stand in the second tape.
use Prim.Native.Nat.{◌+◌, ◌-◌}
use Rattle.keys.specs.Copied.{Copied}
use Rattle.keys.proofs.arrange.copy.Given as goal

abbrev pub invariant-loop-i : goal.invariant-loop-i
invariant-loop-i l = Copied l.tape l.lo l.i l.initial.out l.m (l.m + (l.i - l.lo)) l.out
