-- The names end where those that are left do.
use Prim.Native.Nat.{◌+◌, ◌-◌, ◌≤◌}
use mathlib.Core.Path.{◌≡◌}
use lib.ListN.{length}
use Rattle.keys.specs.LineScans.{names_end}
use Rattle.keys.proofs.notation.names_end.Given as goal

abbrev pub invariant-loop-name : goal.invariant-loop-name
invariant-loop-name l = (l.i + 2 ≤ length l.text) × (names_end l.text 4 l.from ≡ names_end l.text (4 - l._name) l.i)
