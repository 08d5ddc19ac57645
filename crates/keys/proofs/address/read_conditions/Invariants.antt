-- `read_conditions` meets its contract: the machine's answer from condition j on is the whole one.
use Prim.Native.Nat.{◌≤◌}
use mathlib.Core.Path.{◌≡◌}
use lib.ListN.{length}
use Rattle.keys.specs.KeyList.{key_names_at}
use Rattle.keys.specs.Placed.{OfPlace}
use Rattle.keys.specs.AddressTurns.{Going}
use Rattle.keys.proofs.address.read_conditions.Given as goal

abbrev pub invariant-loop-j : goal.invariant-loop-j
invariant-loop-j l = (length l.values ≡ 4) × (l.next ≤ length l.s) × OfPlace l.keys.text.now l.keys.table.now l.keys.paths l.q (λ K p. Going (key_names_at K p) l.s l.at l.values l.next l.j)
