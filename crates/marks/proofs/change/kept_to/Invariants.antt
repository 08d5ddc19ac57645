use Prim.Native.Nat.{◌≤◌}
use mathlib.Core.Path.{◌≡◌}
use mathlib.Core.List.{List}
use lib.ListN.{length, take}
use Rattle.marks.specs.Marks.{Named, entries, up_to}
use Rattle.marks.specs.ChangeLaws.{Kept}
use Rattle.marks.proofs.change.kept_to.Given as goal

abbrev pub invariant-loop-j : goal.invariant-loop-j
invariant-loop-j l = (l.count ≤ l.j) × ((ks : List Named) → l.t.held ≡ entries ks → length ks ≡ l.u → Kept (up_to l.i (take l.j ks)) l.held l.count)
