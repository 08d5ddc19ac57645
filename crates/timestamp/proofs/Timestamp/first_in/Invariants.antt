-- `timestamp::Timestamp::first_in` meets its contract. The loop's invariant: no word that is passed has a member.
use Prim.Native.Nat.{◌*◌, ◌-◌, ◌≤◌}
use mathlib.Core.Path.{◌≡◌}
use Rattle.timestamp.specs.Set.{set_of, first_in}
use Rattle.timestamp.proofs.Timestamp.first_in.Given as goal

abbrev pub invariant-loop-i : goal.invariant-loop-i
invariant-loop-i l = (l.k ≤ l.i) × (l.i ≤ 16) × (first_in (1024 - l.k * 64) (set_of l.self.words) (l.k * 64) ≡ first_in (1024 - l.i * 64) (set_of l.self.words) (l.i * 64))
