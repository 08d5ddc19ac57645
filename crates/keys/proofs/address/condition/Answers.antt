-- `condition` meets its contract: what opens it, the key's name and `="` are skipped one after another, and the value is read.
use Prim.Native.Nat.{◌+◌}
use native.Mathlib.Omega.{arith}
use mathlib.Core.List.{[]}
use lib.ListN.{length, get_or}
use Rattle.xml.specs.Bytes.{bytes}
use Rattle.keys.specs.KeyList.{key_names_at}
use Rattle.keys.specs.TableLaws.{part-within}
use Rattle.keys.specs.AddressParts.{opener}
use Rattle.keys.specs.AddressSkips.{condition-by}
use Rattle.keys.specs.AddressKeys.{keyed-cell, keyed-within, keyed-name, skipped-key}
use Rattle.keys.proofs.address.condition.Goals as goal

pub overflow_add-q : goal.overflow_add-q
overflow_add-q c = let k = keyed-cell c.requires.0 in omega arith

pub overflow_add-q-2 : goal.overflow_add-q-2
overflow_add-q-2 c = let k = keyed-cell c.requires.0 in omega arith

pub key_name-requires : goal.key_name-requires
key_name-requires c = (keyed-cell c.requires.0).1

pub part-key-requires : goal.part-key-requires
part-key-requires c = part-within c.args.keys.now.table.now (c.args.q + 1 + c.args.j) (length c.args.keys.now.text.now) c.key_name.ensures (keyed-within c.requires.0)

pub skip-b-requires : goal.skip-b-requires
skip-b-requires c = (omega arith, c.open_at-a.ensures.within)

pub returns : goal.returns
unfolding bytes
returns c = λ K p t e.
    let a = c.args in
    let s = a.s.now in
    condition-by (opener a.j) (get_or (key_names_at K p) a.j []) s a.at
    c.open_at-a.result c.skip-b.result c.skip-v.result c.value_at.result (omega arith)
    c.open_at-a.ensures
    (skipped-key c.args.keys.now.table.now (a.q + 1 + a.j) c.args.keys.now.text.now s c.open_at-a.result c.skip-b.result c.key_name.ensures
    (keyed-name c.requires.0 K p t e) (rw c.part-key.ensures at c.skip-b.ensures)) c.skip-v.ensures c.value_at.ensures
