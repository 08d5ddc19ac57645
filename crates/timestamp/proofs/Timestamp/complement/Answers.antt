-- `timestamp::Timestamp::complement` meets its contract. The loop's invariant: the words before k are filled (`Filled`).
use native.Mathlib.Omega.{arith}
use mathlib.Core.Path.{refl}
use Rattle.timestamp.specs.Words.{filled_more, outside_set}
use Rattle.timestamp.proofs.Timestamp.complement.Goals as goal

pub loop-k-init : goal.loop-k-init
loop-k-init c = (omega arith, record { size = refl; are = λ k l. absurd (omega arith) })

pub loop-k-preserved : goal.loop-k-preserved
loop-k-preserved c = (omega arith, filled_more _ _ _ _ c.loop-k.invariant.1 (omega arith) refl)

pub returns : goal.returns
returns c = outside_set _ _ _ c.loop-k.invariant.1 (omega arith)
