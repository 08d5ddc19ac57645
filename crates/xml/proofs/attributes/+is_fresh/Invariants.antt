-- `xml::attributes::is_fresh` meets its contract. The invariant: none of the bytes before c can follow. Assumes nothing.
use Prim.Native.Nat.{◌-◌, ◌≤◌}
use mathlib.Core.List.{List}
use lib.ListN.{take}
use Rattle.xml.specs.Bytes.{Bytes}
use Rattle.xml.specs.NameCells.{NameCells}
use Rattle.xml.specs.FreshNames.{Tried}
use Rattle.xml.proofs.attributes.+is_fresh.Given as goal

abbrev pub decreases-is_fresh : goal.decreases-is_fresh
decreases-is_fresh l = 32 - l.len

abbrev pub invariant-loop-c : goal.invariant-loop-c
invariant-loop-c l = (l.c ≤ 128) × ((used : List Bytes) → NameCells l.src l.cells l.base l.k used → Tried used (take l.len l.name) (31 - l.len) l.c)

abbrev pub decreases-loop-c : goal.decreases-loop-c
decreases-loop-c l = 128 - l.c
