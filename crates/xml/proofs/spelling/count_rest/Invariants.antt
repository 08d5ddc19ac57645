-- `xml::spelling::count_rest` meets its contract: one byte after the other is counted. Assumes nothing.
use Rattle.xml.specs.NeatLaws.{Counting}
use Rattle.xml.proofs.spelling.count_rest.Given as goal

abbrev pub invariant-loop-i : goal.invariant-loop-i
invariant-loop-i l = Counting l.b l.src l.at l.i l.n
