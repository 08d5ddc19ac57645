-- `compare_keys` meets its contract: the values from key i on compare as all of them do.
use mathlib.Core.Path.{◌≡◌}
use lib.ListN.{drop}
use Rattle.xml.specs.Forest.{Forest}
use Rattle.xml.specs.Tape.{Tape}
use Rattle.model.specs.Orders.{labels}
use Rattle.keys.specs.KeyList.{key_names_at}
use Rattle.keys.specs.Placed.{OfPlace}
use Rattle.keys.specs.Labelled.{values_of}
use Rattle.keys.proofs.label.compare_keys.Given as goal

abbrev pub invariant-loop-i : goal.invariant-loop-i
invariant-loop-i l = OfPlace l.keys.text.now l.keys.table.now l.keys.paths l.own (λ K p. (f1 f2 : Forest) → Tape l.first.src.now l.first.tape.now l.lo1 l.hi1 f1 → Tape l.second.src.now l.second.tape.now l.lo2 l.hi2 f2
    → labels.cmp (values_of (key_names_at K p) f1) (values_of (key_names_at K p) f2) ≡ labels.cmp (values_of (drop l.i (key_names_at K p)) f1) (values_of (drop l.i (key_names_at K p)) f2))
