-- `xml::reader::read` meets its contract. The invariant: from what is held, reading goes on to the text's answer (Reading), and the cells
-- after it are as they were. Assumes nothing.
use mathlib.Core.Path.{◌≡◌}
use Prim.Native.Nat.{◌-◌}
use lib.ListN.{length}
use Rattle.xml.specs.State.{Reading, Untouched}
use Rattle.xml.proofs.reader.read.Given as goal

abbrev pub invariant-loop-here : goal.invariant-loop-here
invariant-loop-here l = (length l.tape ≡ length l.initial.tape) × Reading l.archive l.src l.tape l.here.at l.here.count l.here.top × Untouched l.initial.tape l.tape l.here.count

abbrev pub decreases-loop-here : goal.decreases-loop-here
decreases-loop-here l = length l.src - l.here.at
