-- `keys::keyed::has_key` meets its contract: one element of the name is found, and no second after it. Assumes nothing.
use native.Mathlib.Omega.{arith}
use mathlib.Core.Path.{sym, ◌∙◌}
use Rattle.keys.specs.FindKey.{called-none, called-some}
use Rattle.keys.specs.KeyChild.{one_none, one-twice, one-once}
use Rattle.keys.proofs.keyed.has_key.Goals as goal

pub returns-then-p-hi : goal.returns-then-p-hi
returns-then-p-hi c f h = sym (one_none (called-none (c.find_key-p.ensures f h) c.if-p-hi.true))

pub view-v-requires : goal.view-v-requires
view-v-requires c = (called-some (c.find_key-p.ensures c.requires.forest c.requires.tape) c.if-p-hi.false).front.held

pub find_key-requires : goal.find_key-requires
find_key-requires c = let x = called-some (c.find_key-p.ensures c.requires.forest c.requires.tape) c.if-p-hi.false in
    rw c.view-v.ensures (record { forest = x.rest; tape = x.after })

pub returns-then-find_key-hi : goal.returns-then-find_key-hi
returns-then-find_key-hi c f h = let x = called-some (c.find_key-p.ensures f h) c.if-p-hi.false in
    let y = rw c.view-v.ensures at c.find_key.ensures in
    sym (one-twice x.are (called-some (y x.rest x.after) c.if-find_key-hi.true).are)

pub overflow_add-p : goal.overflow_add-p
overflow_add-p c = omega (arith, (called-some (c.find_key-p.ensures c.requires.forest c.requires.tape) c.if-p-hi.false).front.held)

pub is_key_value-requires : goal.is_key_value-requires
is_key_value-requires c = let x = called-some (c.find_key-p.ensures c.requires.forest c.requires.tape) c.if-p-hi.false in
    rw c.view-v.ensures (record { forest = x.kids; tape = x.inside })

pub returns : goal.returns
returns c f h = let x = called-some (c.find_key-p.ensures f h) c.if-p-hi.false in
    let y = rw c.view-v.ensures at c.find_key.ensures in
    let z = rw c.view-v.ensures at c.is_key_value.ensures in
    z x.kids x.inside ∙ sym (one-once x.are (called-none (y x.rest x.after) c.if-find_key-hi.false))
