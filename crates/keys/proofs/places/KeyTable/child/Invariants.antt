use Prim.Native.Nat.{◌-◌, ◌≤◌}
use Rattle.keys.specs.TableLaws.{NoChild}
use Rattle.keys.proofs.places.KeyTable.child.Given as goal

abbrev pub invariant-loop-i : goal.invariant-loop-i
invariant-loop-i l = (l.i ≤ l.self.paths) × NoChild l.self.text.now l.self.table.now l.self.paths l.place l.name l.i

abbrev pub decreases-loop-i : goal.decreases-loop-i
decreases-loop-i l = l.self.paths - l.i
