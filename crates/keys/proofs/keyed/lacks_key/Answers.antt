-- `keys::keyed::lacks_key` meets its contract. The loop's invariant: what is lacking is lacking from the key name j on. Assumes nothing.
use Prim.Native.Nat.{◌+◌, ◌<◌}
use native.Mathlib.Omega.{arith}
use mathlib.Core.Path.{sym, ◌∙◌}
use lib.ListN.{length}
use Rattle.keys.specs.KeyList.{key_names_at}
use Rattle.keys.specs.KeyNames.{lacking-start, lacking-here, lacking-more, lacking-done}
use Rattle.keys.specs.LabelLaws.{key-room, key-within}
use Rattle.keys.proofs.keyed.lacks_key.Goals as goal

pub key_count-count-requires : goal.key_count-count-requires
key_count-count-requires c = c.requires.placed.table.held

pub loop-j-init : goal.loop-j-init
loop-j-init c = λ K p t e f h. lacking-start K p f

pub overflow_add-place : goal.overflow_add-place
overflow_add-place c =
    let row : c.args.place + 1 + c.loop-j.j < c.args.keys.now.paths = let a = c.requires.placed in key-room a.table a.path _ a.place_is c.loop-j.j (omega (arith, c.key_count-count.ensures c.args.keys.now.text.now a.key_list a.path a.table a.place_is, c.loop-j-test.true)) in
    let a = c.requires.placed in omega (arith, a.table.few, row)

pub overflow_add-place-in-loop-j : goal.overflow_add-place-in-loop-j
overflow_add-place-in-loop-j c =
    let row : c.args.place + 1 + c.loop-j.j < c.args.keys.now.paths = let a = c.requires.placed in key-room a.table a.path _ a.place_is c.loop-j.j (omega (arith, c.key_count-count.ensures c.args.keys.now.text.now a.key_list a.path a.table a.place_is, c.loop-j-test.true)) in
    let a = c.requires.placed in omega (arith, a.table.few, row)

pub key_name-requires : goal.key_name-requires
key_name-requires c =
    let row : c.args.place + 1 + c.loop-j.j < c.args.keys.now.paths = let a = c.requires.placed in key-room a.table a.path _ a.place_is c.loop-j.j (omega (arith, c.key_count-count.ensures c.args.keys.now.text.now a.key_list a.path a.table a.place_is, c.loop-j-test.true)) in
    let a = c.requires.placed in omega (arith, a.table.held, row)

pub has_key-requires : goal.has_key-requires
has_key-requires c = c.requires.valid

pub part-name-requires : goal.part-name-requires
part-name-requires c = let a = c.requires.placed in
    let l : c.loop-j.j < length (key_names_at a.key_list a.path) = omega (arith, c.key_count-count.ensures c.args.keys.now.text.now a.key_list a.path a.table a.place_is, c.loop-j-test.true) in
    let w = key-within a.table a.path _ a.place_is c.loop-j.j l in
    (rw c.key_name.ensures (omega arith), rw c.key_name.ensures w)

pub returns-then-not-has_key : goal.returns-then-not-has_key
returns-then-not-has_key c K p t e f h = let l : c.loop-j.j < length (key_names_at K p) = omega (arith, c.key_count-count.ensures c.args.keys.now.text.now K p t e, c.loop-j-test.true) in
    sym (c.loop-j.invariant K p t e f h ∙ lacking-here K p t e c.loop-j.j l f (rw (c.part-name.ensures, c.key_name.ensures) at (c.has_key.ensures f h)) c.if-not-has_key.true)

pub loop-j-preserved : goal.loop-j-preserved
loop-j-preserved c = λ K p t e f h.
    let l : c.loop-j.j < length (key_names_at K p) = omega (arith, c.key_count-count.ensures c.args.keys.now.text.now K p t e, c.loop-j-test.true) in
    c.loop-j.invariant K p t e f h ∙ lacking-more K p t e c.loop-j.j l f (rw (c.part-name.ensures, c.key_name.ensures) at (c.has_key.ensures f h)) c.if-not-has_key.false

pub returns : goal.returns
returns c K p t e f h = sym (c.loop-j.invariant K p t e f h ∙ lacking-done K p f c.loop-j.j (omega (arith, c.key_count-count.ensures c.args.keys.now.text.now K p t e, c.loop-j-test.false)))
