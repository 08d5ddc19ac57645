-- `archive_longest_history` meets its contract.
use Rattle.archive.specs.Giving.{gives-told, told-by}
use Rattle.archive.specs.LongestCall.{longest-from, longest-told}
use Rattle.firmware.proofs.archive_longest_history.Goals as goal

pub returns : goal.returns
returns c = longest-told (told-by c.told.ensures.0 c.told.ensures.1 (gives-told _ _ c.args.out.now (longest-from _ _ _) c.longest_in.ensures))
