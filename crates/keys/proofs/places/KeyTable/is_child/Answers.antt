use native.Mathlib.Omega.{arith}
use mathlib.Core.Path.{sym}
use lib.ListN.{length}
use Rattle.keys.specs.TableLaws.{part-within, child-not, child-by}
use Rattle.keys.proofs.places.KeyTable.is_child.Goals as goal

pub returns-then-self-i : goal.returns-then-self-i
returns-then-self-i c = sym (child-not c.args.self.now.text.now c.args.self.now.table.now c.args.i c.args.place c.args.name.now c.if-self-i.true)

pub part-requires : goal.part-requires
part-requires c = part-within c.args.self.now.table.now c.args.i (length c.args.self.now.text.now) c.key_name.ensures (omega arith)

pub returns : goal.returns
returns c = child-by c.args.self.now.text.now c.args.self.now.table.now c.args.i c.args.place c.args.name.now c.if-self-i.false c.key_name.ensures (rw c.part.ensures at c.same_bytes.ensures)
