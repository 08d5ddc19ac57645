-- `parse_address` meets its contract: the machine's answer from the place is the whole one, and the steps so far are in the arrays.
use Prim.Native.Nat.{◌-◌, ◌≤◌}
use mathlib.Core.Path.{◌≡◌}
use lib.ListN.{length}
use Rattle.keys.specs.KeyList.{KeyList}
use Rattle.keys.specs.Table.{Table}
use Rattle.keys.specs.AddressLoop.{Parsing}
use Rattle.keys.proofs.address.parse_address.Given as goal

abbrev pub invariant-loop-at : goal.invariant-loop-at
invariant-loop-at l = (length l.names ≡ 8) × (length l.places ≡ 8) × (length l.found ≡ 8) × (l.count ≤ 8)
    × ((K : KeyList) → Table l.keys.text.now l.keys.table.now l.keys.paths K → Parsing K l.s l.names l.places l.found l.count l.place l.at)

abbrev pub decreases-loop-at : goal.decreases-loop-at
decreases-loop-at l = 8 - l.count
