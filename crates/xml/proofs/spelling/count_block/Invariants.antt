-- `xml::spelling::count_block` meets its contract: one byte after the other is counted. Assumes nothing.
use Prim.Native.Nat.{◌+◌, ◌-◌, ◌≤◌}
use Rattle.xml.specs.NeatLaws.{Counting}
use Rattle.xml.proofs.spelling.count_block.Given as goal

abbrev pub invariant-loop-i : goal.invariant-loop-i
invariant-loop-i l = (l.i ≤ 128) × Counting l.b l.src l.at (l.at + l.i) l.n

abbrev pub decreases-loop-i : goal.decreases-loop-i
decreases-loop-i l = 128 - l.i
