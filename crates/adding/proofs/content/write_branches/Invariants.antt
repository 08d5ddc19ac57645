-- `write_branches` meets its contract: the contents before node p are written as they stood, and none is the version's. Assumes nothing.
use Prim.Native.Nat.{◌+◌, ◌*◌, ◌-◌, ◌≤◌}
use mathlib.Core.Path.{◌≡◌}
use lib.ListN.{length}
use Rattle.xml.specs.Forest.{Forest}
use Rattle.xml.specs.Tape.{Tape}
use Rattle.versions.specs.Walk.{add_branch}
use Rattle.versions.specs.AddParts.{BranchesIn}
use Rattle.versions.specs.AddFront.{SomeBranches, Passing}
use Rattle.adding.proofs.content.write_branches.Given as goal

abbrev pub invariant-loop-p : goal.invariant-loop-p
invariant-loop-p l = (l.lo ≤ l.p) × SomeBranches l.n l.archive.src.now l.archive.tape.now l.p l.hi × (l.to ≤ l.at + 163840 * (l.p - l.lo)) × (length l.out ≡ length l.initial.out) × ((f v : Forest) → Tape l.archive.src.now l.archive.tape.now l.lo l.hi f → Tape l.version.src.now l.version.tape.now l.vlo l.vhi v → BranchesIn l.n f → Passing l.archive.src.now l.archive.tape.now l.p l.hi l.n v (add_branch l.n v f) f l.initial.out l.at l.to l.out)

abbrev pub decreases-loop-p : goal.decreases-loop-p
decreases-loop-p l = l.hi - l.p
