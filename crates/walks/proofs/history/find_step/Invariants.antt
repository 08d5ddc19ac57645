-- `find_step` meets its contract: the siblings left hold the one with the label, if there is one.
use Prim.Native.Nat.{◌-◌}
use mathlib.Core.List.{[]}
use lib.ListN.{get_or}
use Rattle.versions.specs.HistoryTape.{StepLeft}
use Rattle.walks.specs.HistoryParts.{OfStep}
use Rattle.walks.proofs.history.find_step.Given as goal

abbrev pub invariant-loop-p : goal.invariant-loop-p
invariant-loop-p now = OfStep now.keys.text.now now.keys.table.now now.keys.paths now.s (get_or now.steps.names now.i 0) (get_or now.steps.places now.i 0) (get_or now.values now.i []) now.doc.src.now now.doc.tape.now now.lo now.hi (λ K m q l t f. StepLeft now.doc.src.now now.doc.tape.now K m q l t now.p now.hi f)

abbrev pub decreases-loop-p : goal.decreases-loop-p
decreases-loop-p l = l.hi - l.p
