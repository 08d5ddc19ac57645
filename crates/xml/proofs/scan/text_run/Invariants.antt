-- `xml::scan::text_run` meets its contract. The invariant: the run from `at` is the run from j, after q times `]`. Assumes nothing.
use Prim.Native.Nat.{◌-◌}
use lib.ListN.{length}
use Rattle.xml.proofs.TextRuns.{Reached}
use Rattle.xml.proofs.scan.text_run.Given as goal

abbrev pub invariant-loop-j : goal.invariant-loop-j
invariant-loop-j l = Reached l.src l.at l.j l.q

abbrev pub decreases-loop-j : goal.decreases-loop-j
decreases-loop-j l = length l.src - l.j
