-- `timestamp::text::take_text` meets its contract. The loop's invariant (`TakingText`): the runs before `at` are taken out of the words.
use Prim.Native.Nat.{◌-◌}
use lib.ListN.{length}
use Rattle.timestamp.specs.TakenText.{TakingText}
use Rattle.timestamp.proofs.text.take_text.Given as goal

abbrev pub invariant-loop-run : goal.invariant-loop-run
invariant-loop-run l = TakingText l.text l.initial.left.words l.first l.bound l.at l.left.words

abbrev pub decreases-loop-run : goal.decreases-loop-run
decreases-loop-run l = length l.text - l.at
