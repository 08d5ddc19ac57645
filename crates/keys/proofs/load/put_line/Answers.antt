-- The line's entry, its key names' and the context's bit.
use Prim.Native.Nat.{ℕ, ◌+◌, ◌*◌, ◌-◌}
use native.Mathlib.Omega.{arith}
use mathlib.Core.Path.{ap, ◌∙◌}
use mathlib.Core.Bool.{not}
use lib.Dec.{eqb}
use lib.ListN.{length}
use Rattle.keys.proofs.LoadCells.{entry_set, entry-size, line-put, bit-1, room-kept}
use Rattle.keys.proofs.load.put_line.Goals as goal

pub overflow_add-place-2 : goal.overflow_add-place-2
overflow_add-place-2 c = let b = bit-1 (not (eqb c.args.keys 0)) in
    let e = c.inner_bit.ensures in
    omega (arith, c.requires.placed, c.requires.few-keys, c.requires.key-room.few)

pub put_path-requires : goal.put_path-requires
put_path-requires c = let b = bit-1 (not (eqb c.args.keys 0)) in
    let e = c.inner_bit.ensures in
    let r = c.requires in
    let s = r.key-room.short in
    let f = r.key-room.few in
    let w = r.key-room.room in
    (omega (arith, r.placed), omega (arith, r.name-from), omega (arith, r.name-within), omega (arith, r.small), omega (arith, r.placed, r.few-keys))

pub put_keys-requires : goal.put_keys-requires
put_keys-requires c = room-kept c.requires.key-room (ap length c.put_path.ensures ∙ entry-size c.args.table.now c.args.n _ _)

pub returns : goal.returns
returns c = line-put c.requires (c.put_path.ensures ∙ ap (λ (b : ℕ). entry_set c.args.table.now c.args.n ((c.args.line.context + 3) * 64 + (c.args.line.name - (c.args.line.context + 3))) (c.args.place * 16 + c.args.keys * 2 + b)) c.inner_bit.ensures) c.put_keys.ensures c.set_inner.ensures
