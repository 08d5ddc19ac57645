use Prim.Native.Nat.{◌*◌, ◌+◌}
use native.Mathlib.Omega.{arith}
use Rattle.xml.proofs.tape.view_at.Goals as goal

-- src/view.rt:24:17
pub overflow_cast-start : goal.overflow_cast-start
overflow_cast-start c = omega (arith, c.shared_slice_known-1.given (2 * c.args.p))

-- src/view.rt:27:14
pub overflow_add-result : goal.overflow_add-result
overflow_add-result c = omega (arith, c.shared_slice_known-1.given (2 * c.args.p))

-- src/view.rt:29:15
pub overflow_cast-result-2 : goal.overflow_cast-result-2
overflow_cast-result-2 c = omega (arith, c.shared_slice_known-2-1.given (2 * c.args.p + 1))
