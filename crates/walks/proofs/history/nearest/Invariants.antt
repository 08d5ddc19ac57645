-- `nearest` meets its contract: the rest of the address, in the element that the walk has come to, gives the history.
use Rattle.walks.specs.HistoryWalk.{Way}
use Rattle.walks.proofs.history.nearest.Given as goal

abbrev pub invariant-loop-i : goal.invariant-loop-i
invariant-loop-i l = Way l.keys.text.now l.keys.table.now l.keys.paths l.s l.steps l.values l.doc.src.now l.doc.tape.now l.count l.i l.around l.lo l.hi
