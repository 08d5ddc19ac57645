-- `xml::names::names_before` meets its contract: the names below `lo` come before the name, those from `hi` on do not. Assumes nothing.
use Prim.Native.Nat.{◌-◌}
use Rattle.xml.specs.NameCells.{Parted}
use Rattle.xml.proofs.names.names_before.Given as goal

abbrev pub invariant-loop-lo : goal.invariant-loop-lo
invariant-loop-lo l = Parted l.src l.cells l.base l.k l.name l.lo l.hi

abbrev pub decreases-loop-lo : goal.decreases-loop-lo
decreases-loop-lo l = l.hi - l.lo
