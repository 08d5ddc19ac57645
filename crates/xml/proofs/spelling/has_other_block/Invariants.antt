-- `xml::spelling::has_other_block` meets its contract: what is found, or what the rest has, is what all have. Assumes nothing.
use Prim.Native.Nat.{◌+◌, ◌-◌, ◌≤◌}
use mathlib.Core.Path.{◌≡◌}
use mathlib.Core.Bool.{◌||◌}
use lib.ListN.{drop}
use Rattle.xml.specs.Neat.{others}
use Rattle.xml.proofs.spelling.has_other_block.Given as goal

abbrev pub invariant-loop-i : goal.invariant-loop-i
invariant-loop-i l = (l.i ≤ 64) × (others (drop l.at l.src) ≡ (l.odd || others (drop (l.at + l.i) l.src)))

abbrev pub decreases-loop-i : goal.decreases-loop-i
decreases-loop-i l = 64 - l.i
