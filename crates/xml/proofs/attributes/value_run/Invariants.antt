-- `xml::attributes::value_run` meets its contract. The invariant: the value from `at` is the value from j. Assumes nothing.
use Prim.Native.Nat.{◌-◌}
use lib.ListN.{length}
use Rattle.xml.specs.ValueBytes.{Passed}
use Rattle.xml.proofs.attributes.value_run.Given as goal

abbrev pub invariant-loop-j : goal.invariant-loop-j
invariant-loop-j l = Passed l.src l.at l.q l.j

abbrev pub decreases-loop-j : goal.decreases-loop-j
decreases-loop-j l = length l.src - l.j
