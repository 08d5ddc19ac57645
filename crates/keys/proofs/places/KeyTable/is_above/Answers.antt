use native.Mathlib.Omega.{arith}
use mathlib.Core.Path.{sym}
use Rattle.keys.specs.KeyList.{above}
use Rattle.keys.specs.TableLaws.{table-top, table-out, table-off, table-inner, inner-bit}
use Rattle.keys.proofs.places.KeyTable.is_above.Goals as goal

pub returns-then-place-eq128 : goal.returns-then-place-eq128
returns-then-place-eq128 c = λ text K p t e. sym (table-top t p c.args.place e c.if-place-eq128.true)

pub returns-then-place-self : goal.returns-then-place-self
returns-then-place-self c = λ text K p t e. sym (table-off t p c.args.place e (table-out t p c.args.place e (omega arith) c.if-place-eq128.false))

pub returns : goal.returns
returns c = λ text K p t e. inner-bit _ (above K p) (table-inner t p c.args.place e (omega arith))
