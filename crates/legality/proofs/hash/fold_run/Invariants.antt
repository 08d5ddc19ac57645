-- `legality::hash::fold_run` meets its contract. The loop's invariant: folding in what is left of the run gives what the whole run gives.
-- Assumes nothing.
use Prim.Native.Nat.{◌-◌, ◌<◌, ◌≤◌}
use mathlib.Core.Path.{◌≡◌}
use lib.Seq.{slice}
use Rattle.xml.specs.Read.{unescape}
use Rattle.versions.specs.Hashes.{folded}
use Rattle.legality.proofs.hash.fold_run.Given as goal

abbrev pub invariant-loop-i : goal.invariant-loop-i
invariant-loop-i l = (l.i ≤ l.e) × (l.h < 65536) × (folded l.start (unescape 0 (slice l.a l.e l.src)) ≡ folded l.h (unescape 0 (slice l.i l.e l.src)))

abbrev pub decreases-loop-i : goal.decreases-loop-i
decreases-loop-i l = l.e - l.i
