-- `history_on` meets its contract.
use Rattle.archive.specs.HistoryCall.{history-from}
use Rattle.archive.specs.Giving.{gives-told}
use Rattle.firmware.proofs.cells.history_on.Goals as goal

pub returns : goal.returns
returns g c = gives-told _ _ c.args.out.now (history-from _ _ _ _ _) c.history_in.ensures
