-- `archive::front::is_untimed` meets its contract. The loop's invariant: no node passed is a `T` or named so. Assumes nothing.
use Prim.Native.Nat.{ℕ, ◌≤◌, ◌<◌}
use mathlib.Core.Path.{◌≡◌}
use mathlib.Core.Bool.{false}
use Rattle.versions.specs.Untimed.{timed_at}
use Rattle.legality.proofs.front.is_untimed.Given as goal

abbrev pub invariant-loop-i : goal.invariant-loop-i
invariant-loop-i l = (j : ℕ) → l.lo ≤ j → j < l.i → timed_at l.doc.src.now l.doc.tape.now j ≡ false
