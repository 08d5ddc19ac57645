-- `xml::scan::name_rest` meets its contract. The invariant: n bytes were of the name, and the rest of it is what stands after them.
-- Assumes nothing.
use mathlib.Core.Path.{◌≡◌}
use Prim.Native.Nat.{◌+◌, ◌-◌, ◌≤◌}
use lib.ListN.{drop}
use Rattle.xml.specs.Read.{name_rest}
use Rattle.xml.proofs.scan.name_rest.Given as goal

abbrev pub invariant-loop-n : goal.invariant-loop-n
invariant-loop-n l = (l.n ≤ l.count) × (name_rest 31 (drop l.at l.src) ≡ l.n + name_rest (31 - l.n) (drop (l.at + l.n) l.src))

abbrev pub decreases-loop-n : goal.decreases-loop-n
decreases-loop-n l = l.count - l.n
