-- `order_in` meets its contract: the elements passed are the entries, in order.
use Prim.Native.Nat.{◌-◌, ◌≤◌}
use mathlib.Core.Path.{◌≡◌}
use lib.ListN.{length}
use Rattle.xml.specs.Forest.{Forest}
use Rattle.xml.specs.Tape.{Tape}
use Rattle.keys.specs.Placed.{OfPlace}
use Rattle.keys.specs.Labelled.{Labelled}
use Rattle.keys.specs.Checked.{Checked}
use Rattle.keys.specs.Entries.{AllEntries}
use Rattle.keys.specs.Gathering.{Gathering}
use Rattle.keys.proofs.order.order_in.Given as goal

abbrev pub invariant-loop-p : goal.invariant-loop-p
invariant-loop-p l = (l.lo ≤ l.p) × Checked l.keys.text.now l.keys.table.now l.keys.paths l.place l.doc.src.now l.doc.tape.now l.p l.hi × (length l.order ≡ 512) × AllEntries (Labelled l.keys.text.now l.keys.table.now l.keys.paths l.place l.doc.src.now l.doc.tape.now) l.order l.k
    × OfPlace l.keys.text.now l.keys.table.now l.keys.paths l.place (λ K q. (f : Forest) → Tape l.doc.src.now l.doc.tape.now l.lo l.hi f → Gathering K q l.doc.src.now l.doc.tape.now l.lo l.hi l.order f l.p l.k)

abbrev pub decreases-loop-p : goal.decreases-loop-p
decreases-loop-p l = l.hi - l.p
