-- `xml::spelling::count_tags` meets its contract: what is counted is the count of the nodes below i. Assumes nothing.
use Prim.Native.Nat.{◌≤◌}
use mathlib.Core.Path.{◌≡◌}
use Rattle.xml.specs.Neat.{tags_below}
use Rattle.xml.proofs.spelling.count_tags.Given as goal

abbrev pub invariant-loop-i : goal.invariant-loop-i
invariant-loop-i l = (l.i ≤ l.hi) × (l.n ≤ l.i) × (l.n ≡ tags_below l.tape l.i)
