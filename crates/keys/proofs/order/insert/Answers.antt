-- `insert` meets its contract: the entries from j on are one further, and p stands there.
use mathlib.Core.Path.{◌∙◌, ap}
use lib.ListN.{set}
use native.Mathlib.Omega.{arith}
use Rattle.keys.specs.Entries.{inserted-is}
use Rattle.keys.proofs.order.insert.Goals as goal

pub returns : goal.returns
returns c = ap (λ x. set x c.args.j c.args.p) c.copy_within.ensures.after ∙ inserted-is c.args.order.now c.args.k (omega arith) c.args.j c.args.p c.requires.0
