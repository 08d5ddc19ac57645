-- `legality::hash::hash` meets its contract. The loop's invariant: folding in the nodes left gives the hash of all nodes. Assumes nothing.
use Prim.Native.Nat.{◌-◌, ◌<◌}
use mathlib.Core.Path.{◌≡◌}
use Rattle.versions.specs.Hashes.{hash_along}
use Rattle.legality.proofs.hash.hash.Given as goal

abbrev pub invariant-loop-i : goal.invariant-loop-i
invariant-loop-i l = (l.h < 65536) × (hash_along l.doc.src.now l.doc.tape.now (l.hi - l.i) l.i l.h ≡ hash_along l.doc.src.now l.doc.tape.now (l.hi - l.lo) l.lo 0)
