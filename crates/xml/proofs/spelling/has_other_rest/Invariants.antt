-- `xml::spelling::has_other_rest` meets its contract: what the rest has is what all have. Assumes nothing.
use mathlib.Core.Path.{◌≡◌}
use lib.ListN.{drop}
use Rattle.xml.specs.Neat.{others}
use Rattle.xml.proofs.spelling.has_other_rest.Given as goal

abbrev pub invariant-loop-i : goal.invariant-loop-i
invariant-loop-i l = others (drop l.at l.src) ≡ others (drop l.i l.src)
