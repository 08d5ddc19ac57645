-- `timestamp::text::parse_into` meets its contract. The loop's invariant: the state of the words and the bound, run over
-- the rest of the text, ends as it does over all of it.
use Prim.Native.Nat.{◌-◌, ◌≤◌}
use mathlib.Core.Path.{◌≡◌}
use lib.ListN.{length, drop}
use Rattle.timestamp.specs.Set.{set_of, empty_set}
use Rattle.timestamp.specs.Reading.{st, steps, close_in}
use Rattle.timestamp.proofs.text.parse_into.Given as goal

abbrev pub invariant-loop-run : goal.invariant-loop-run
invariant-loop-run l = (l.at ≤ length l.text) × (length l.set.words ≡ 16) × (close_in (steps (st (set_of l.set.words) l.p 0 0) (drop l.at l.text)) ≡ close_in (steps (st empty_set 0 0 0) l.text))

abbrev pub decreases-loop-run : goal.decreases-loop-run
decreases-loop-run l = length l.text - l.at
