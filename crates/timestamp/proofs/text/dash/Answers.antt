-- `timestamp::text::dash` meets its contract.
use mathlib.Core.Path.{◌≡◌}
use Rattle.timestamp.specs.Belongs.{dashed-more}
use Rattle.timestamp.proofs.text.dash.Goals as goal

pub returns-then-k-eq0 : goal.returns-then-k-eq0
returns-then-k-eq0 c = let e : c.args.k ≡ 0 = c.if-k-eq0.true in rw e

pub returns-else-k-eq0 : goal.returns-else-k-eq0
returns-else-k-eq0 c = dashed-more c.args.k c.if-k-eq0.false
