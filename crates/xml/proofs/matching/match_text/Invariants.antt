-- `xml::matching::match_text` meets its contract: what is left of the run is to stand at the place where the loop has come to. Assumes nothing.
use Prim.Native.Nat.{◌+◌, ◌-◌, ◌≤◌}
use mathlib.Core.Path.{◌≡◌}
use lib.ListN.{length}
use lib.Seq.{slice}
use Rattle.xml.specs.Matching.{match_at}
use Rattle.xml.specs.Signs.{spelt}
use Rattle.xml.proofs.matching.match_text.Given as goal

abbrev pub invariant-loop-i : goal.invariant-loop-i
invariant-loop-i l = (l.i ≤ l.e) × (l.to ≤ length l.src + 1) × (match_at l.src l.at (spelt (slice l.a l.e l.src)) ≡ match_at l.src l.to (spelt (slice l.i l.e l.src)))

abbrev pub decreases-loop-i : goal.decreases-loop-i
decreases-loop-i l = l.e - l.i
