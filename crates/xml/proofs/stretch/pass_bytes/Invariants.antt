-- `xml::stretch::pass_bytes` meets its contract. The invariant: it holds of the place reached. Assumes nothing.
use Prim.Native.Nat.{◌-◌}
use Rattle.xml.specs.Stretch.{Passed}
use Rattle.xml.proofs.stretch.pass_bytes.Given as goal

abbrev pub invariant-loop-j : goal.invariant-loop-j
invariant-loop-j g l = Passed g.S.Sort.test g.S.Sort.answer l.src l.at l.e l.j

abbrev pub decreases-loop-j : goal.decreases-loop-j
decreases-loop-j g l = l.e - l.j
