-- `xml::attributes::new_len` meets its contract. The invariant: n bytes begin a new name, and stand in the array. Assumes nothing.
use Prim.Native.Nat.{◌+◌, ◌-◌, ◌≤◌}
use mathlib.Core.Path.{◌≡◌}
use mathlib.Core.List.{List}
use lib.ListN.{length}
use Rattle.xml.specs.Bytes.{Bytes}
use Rattle.xml.specs.NameCells.{NameCells}
use Rattle.xml.specs.FreshNames.{Counted}
use Rattle.xml.proofs.attributes.new_len.Given as goal

abbrev pub invariant-loop-n : goal.invariant-loop-n
invariant-loop-n l = (l.n ≤ 32) × (l.at + l.n ≤ length l.src) × (length l.name ≡ 32) × ((used : List Bytes) → NameCells l.src l.cells l.base l.k used → Counted used l.src l.at l.name l.n)

abbrev pub decreases-loop-n : goal.decreases-loop-n
decreases-loop-n l = 32 - l.n
