-- `same_keys` meets its contract: the values from key j on are the same where all are.
use mathlib.Core.Path.{◌≡◌}
use Rattle.xml.specs.Forest.{Forest}
use Rattle.xml.specs.Tape.{Tape}
use Rattle.keys.specs.KeyList.{key_names_at}
use Rattle.keys.specs.Placed.{OfPlace}
use Rattle.keys.specs.SameStep.{From}
use Rattle.keys.proofs.address.same_keys.Given as goal

abbrev pub invariant-loop-j : goal.invariant-loop-j
invariant-loop-j l = OfPlace l.keys.text.now l.keys.table.now l.keys.paths l.own (λ K p. (f : Forest) → Tape l.doc.src.now l.doc.tape.now l.lo l.hi f → From l.s l.values (key_names_at K p) f 0 ≡ From l.s l.values (key_names_at K p) f l.j)
