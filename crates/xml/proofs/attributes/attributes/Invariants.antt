-- `xml::attributes::attributes` meets its contract. The invariant: the attributes from `at` go as far as those from j, and k names of
-- those before it are noted (Noting). Assumes nothing.
use Prim.Native.Nat.{◌-◌}
use lib.ListN.{length}
use Rattle.xml.specs.AttrPlaces.{Noting}
use Rattle.xml.proofs.attributes.attributes.Given as goal

abbrev pub invariant-loop-j : goal.invariant-loop-j
invariant-loop-j l = Noting l.src l.at l.base l.initial.cells l.cells l.j l.k

abbrev pub decreases-loop-j : goal.decreases-loop-j
decreases-loop-j l = length l.src - l.j
