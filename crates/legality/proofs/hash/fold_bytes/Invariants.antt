-- `legality::hash::fold_bytes` meets its contract. The loop's invariant: folding in the bytes left gives what all of them give. Assumes nothing.
use Prim.Native.Nat.{◌+◌, ◌<◌}
use mathlib.Core.Path.{◌≡◌}
use lib.Seq.{slice}
use Rattle.versions.specs.Hashes.{folded}
use Rattle.legality.proofs.hash.fold_bytes.Given as goal

abbrev pub invariant-loop-b : goal.invariant-loop-b
invariant-loop-b l = (l.h < 65536) × (folded l.start (slice l.a l.e l.src) ≡ folded l.h (slice (l.a + l.b-index) l.e l.src))
