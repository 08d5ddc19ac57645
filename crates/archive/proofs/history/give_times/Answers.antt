-- `give_times` meets its contract, by what `history` ensures of an empty output and of the lent one.
use Rattle.xml.specs.OverLaws.{wrote-over}
use Rattle.versions.specs.Walk.{history_forest}
use Rattle.archive.specs.Giving.{give-short, give-done}
use Rattle.archive.proofs.history.give_times.Goals as goal

pub returns-then-out-count : goal.returns-then-out-count
returns-then-out-count c K f ls t h a = give-short (history_forest K ls f) c.args.out.now (wrote-over (c.history-count.ensures K f ls t h a)).0 c.if-out-count.true

pub returns : goal.returns
returns c K f ls t h a = give-done (history_forest K ls f) c.args.out.now (wrote-over (c.history-count.ensures K f ls t h a)).0 c.if-out-count.false (wrote-over (c.history.ensures K f ls t h a)).1
