use native.Mathlib.Omega.{arith}
use mathlib.Core.Path.{sym, ap}
use lib.ListN.{length}
use Rattle.keys.specs.TableLaws.{table-bare, table-keys}
use Rattle.keys.proofs.places.KeyTable.key_count.Goals as goal

pub returns-then-place-self : goal.returns-then-place-self
returns-then-place-self c = λ text K p t e. sym (ap length (table-bare t p c.args.place e (omega arith)))

pub returns : goal.returns
returns c = λ text K p t e. table-keys t p c.args.place e (omega arith)
