-- The lowest bit is set without overflow.
use Prim.Native.Nat.{◌+◌, ◌*◌}
use native.Mathlib.Omega.{arith}
use Rattle.keys.proofs.load.set_inner.Goals as goal

pub overflow_add-table : goal.overflow_add-table
overflow_add-table c = omega (arith, c.slice_known-1.given (2 * c.args.i + 1))
