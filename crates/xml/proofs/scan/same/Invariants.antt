-- `xml::scan::same` meets its contract. The invariant: n bytes agree, and then as many as the rests have in common. Assumes nothing.
use mathlib.Core.Path.{◌≡◌}
use Prim.Native.Nat.{◌+◌, ◌-◌, ◌≤◌}
use lib.ListN.{length, drop}
use Rattle.xml.specs.Read.{common}
use Rattle.xml.proofs.scan.same.Given as goal

abbrev pub invariant-loop-n : goal.invariant-loop-n
invariant-loop-n l = (l.n ≤ length l.word) × (l.at + l.n ≤ length l.src) × (common l.word (drop l.at l.src) ≡ l.n + common (drop l.n l.word) (drop (l.at + l.n) l.src))

abbrev pub decreases-loop-n : goal.decreases-loop-n
decreases-loop-n l = length l.word - l.n
