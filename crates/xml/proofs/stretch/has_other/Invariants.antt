-- `xml::stretch::has_other` meets its contract. The invariant: where there was no hit, each byte passed is of the sort. Assumes nothing.
use Prim.Native.Nat.{◌+◌, ◌≤◌}
use mathlib.Core.Path.{◌≡◌}
use mathlib.Core.Bool.{false}
use Rattle.xml.specs.Stretch.{Each}
use Rattle.xml.proofs.stretch.has_other.Given as goal

abbrev pub invariant-loop-i : goal.invariant-loop-i
invariant-loop-i g l = (l.i ≤ l.count) × (l.hit ≡ false → Each g.S.Sort.test g.S.Sort.answer l.src l.at (l.at + l.i))
