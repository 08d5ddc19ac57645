-- `same_keys` meets its contract: the values from key j on are the same where all are.
use Rattle.std.proofs.lemmas.Slice.{between_is}
use Prim.Native.Nat.{◌+◌, ◌≤◌, ◌<◌}
use native.Mathlib.Omega.{arith}
use mathlib.Core.Path.{◌≡◌, refl, sym, ◌∙◌}
use borrow.Author.Rules.{rules}
use lib.ListN.{length}
use Rattle.xml.specs.Forest.{Forest}
use Rattle.xml.specs.Tape.{Node, Tape}
use Rattle.keys.specs.KeyList.{key_names_at}
use Rattle.keys.specs.Version.{called, value_in}
use Rattle.keys.specs.Placed.{OfPlace}
use Rattle.keys.specs.Named.{few-keys}
use Rattle.keys.specs.LabelLaws.{key-room, key-within, key-name-is, key_bytes, value-node}
use Rattle.keys.specs.SameStep.{keys-differ, keys_on, keys-done}
use Rattle.keys.proofs.address.same_keys.Goals as goal

pub key_count-count-requires : goal.key_count-count-requires
key_count-count-requires c = c.requires.keyed.tabled.held

pub loop-j-init : goal.loop-j-init
loop-j-init c = λ K p t e f h. refl

pub overflow_add-own : goal.overflow_add-own
overflow_add-own c =
    let own_key : c.loop-j.j < length (key_names_at c.requires.keyed.key_list c.requires.keyed.path) = let h = c.requires.keyed in omega (arith, c.key_count-count.ensures c.args.keys.now.text.now h.key_list h.path h.tabled h.place_is, c.loop-j-test.true) in
    let room : c.args.own + 1 + c.loop-j.j < c.args.keys.now.paths = let h = c.requires.keyed in key-room h.tabled h.path c.args.own h.place_is c.loop-j.j (own_key) in
    omega (arith, room, c.requires.keyed.tabled.few)

pub overflow_add-own-in-loop-j : goal.overflow_add-own-in-loop-j
overflow_add-own-in-loop-j c =
    let own_key : c.loop-j.j < length (key_names_at c.requires.keyed.key_list c.requires.keyed.path) = let h = c.requires.keyed in omega (arith, c.key_count-count.ensures c.args.keys.now.text.now h.key_list h.path h.tabled h.place_is, c.loop-j-test.true) in
    let room : c.args.own + 1 + c.loop-j.j < c.args.keys.now.paths = let h = c.requires.keyed in key-room h.tabled h.path c.args.own h.place_is c.loop-j.j (own_key) in
    omega (arith, room, c.requires.keyed.tabled.few)

pub key_name-requires : goal.key_name-requires
key_name-requires c =
    let own_key : c.loop-j.j < length (key_names_at c.requires.keyed.key_list c.requires.keyed.path) = let h = c.requires.keyed in omega (arith, c.key_count-count.ensures c.args.keys.now.text.now h.key_list h.path h.tabled h.place_is, c.loop-j-test.true) in
    let room : c.args.own + 1 + c.loop-j.j < c.args.keys.now.paths = let h = c.requires.keyed in key-room h.tabled h.path c.args.own h.place_is c.loop-j.j (own_key) in
    omega (arith, room, c.requires.keyed.tabled.held)

pub part-key-requires : goal.part-key-requires
part-key-requires c =
    let own_key : c.loop-j.j < length (key_names_at c.requires.keyed.key_list c.requires.keyed.path) = let h = c.requires.keyed in omega (arith, c.key_count-count.ensures c.args.keys.now.text.now h.key_list h.path h.tabled h.place_is, c.loop-j-test.true) in
    let h = c.requires.keyed in
    rw c.key_name.ensures (omega arith, key-within h.tabled h.path c.args.own h.place_is c.loop-j.j own_key)

pub find_key-x-requires : goal.find_key-x-requires
find_key-x-requires c = record { forest = c.requires.keyed.kids; tape = c.requires.keyed.tape }

pub overflow_add-x : goal.overflow_add-x
overflow_add-x c =
    let own_key : c.loop-j.j < length (key_names_at c.requires.keyed.key_list c.requires.keyed.path) = let h = c.requires.keyed in omega (arith, c.key_count-count.ensures c.args.keys.now.text.now h.key_list h.path h.tabled h.place_is, c.loop-j-test.true) in
    let value : (f : Forest) → Tape c.args.doc.now.src.now c.args.doc.now.tape.now c.args.lo c.args.hi f → Node c.args.doc.now.src.now c.args.doc.now.tape.now (c.find_key-x.result + 1) 0 (value_in (called (key_bytes c.args.keys.now.text.now c.args.keys.now.table.now (c.args.own + 1 + c.loop-j.j)) f)) = value-node c.loop-j.j c.requires.keyed (own_key) c.find_key-x.result (rw (c.part-key.ensures, c.key_name.ensures) at c.find_key-x.ensures) in
    let h = c.requires.keyed in
    omega (arith, (value h.kids h.tape).held)

pub view-v-requires : goal.view-v-requires
view-v-requires c =
    let own_key : c.loop-j.j < length (key_names_at c.requires.keyed.key_list c.requires.keyed.path) = let h = c.requires.keyed in omega (arith, c.key_count-count.ensures c.args.keys.now.text.now h.key_list h.path h.tabled h.place_is, c.loop-j-test.true) in
    let value : (f : Forest) → Tape c.args.doc.now.src.now c.args.doc.now.tape.now c.args.lo c.args.hi f → Node c.args.doc.now.src.now c.args.doc.now.tape.now (c.find_key-x.result + 1) 0 (value_in (called (key_bytes c.args.keys.now.text.now c.args.keys.now.table.now (c.args.own + 1 + c.loop-j.j)) f)) = value-node c.loop-j.j c.requires.keyed (own_key) c.find_key-x.result (rw (c.part-key.ensures, c.key_name.ensures) at c.find_key-x.ensures) in
    let h = c.requires.keyed in
    (value h.kids h.tape).held

pub offset_bounds-values-j : goal.offset_bounds-values-j
offset_bounds-values-j c =
    let few : c.key_count-count.result ≤ 4 = let h = c.requires.keyed in omega (arith, few-keys c.args.keys.now.text.now h.key_list h.tabled.accepted h.path, c.key_count-count.ensures c.args.keys.now.text.now h.key_list h.path h.tabled h.place_is) in
    omega (arith, few)

pub bounds-values-j : goal.bounds-values-j
bounds-values-j c =
    let few : c.key_count-count.result ≤ 4 = let h = c.requires.keyed in omega (arith, few-keys c.args.keys.now.text.now h.key_list h.tabled.accepted h.path, c.key_count-count.ensures c.args.keys.now.text.now h.key_list h.path h.tabled h.place_is) in
    omega (arith, few)

pub overflow_add-k : goal.overflow_add-k
overflow_add-k c =
    let own_key : c.loop-j.j < length (key_names_at c.requires.keyed.key_list c.requires.keyed.path) = let h = c.requires.keyed in omega (arith, c.key_count-count.ensures c.args.keys.now.text.now h.key_list h.path h.tabled h.place_is, c.loop-j-test.true) in
    let i = c.requires.inside c.loop-j.j own_key in
    omega arith

pub part-requires : goal.part-requires
part-requires c =
    let own_key : c.loop-j.j < length (key_names_at c.requires.keyed.key_list c.requires.keyed.path) = let h = c.requires.keyed in omega (arith, c.key_count-count.ensures c.args.keys.now.text.now h.key_list h.path h.tabled h.place_is, c.loop-j-test.true) in
    let value : (f : Forest) → Tape c.args.doc.now.src.now c.args.doc.now.tape.now c.args.lo c.args.hi f → Node c.args.doc.now.src.now c.args.doc.now.tape.now (c.find_key-x.result + 1) 0 (value_in (called (key_bytes c.args.keys.now.text.now c.args.keys.now.table.now (c.args.own + 1 + c.loop-j.j)) f)) = value-node c.loop-j.j c.requires.keyed (own_key) c.find_key-x.result (rw (c.part-key.ensures, c.key_name.ensures) at c.find_key-x.ensures) in
    let h = c.requires.keyed in
    let w = (value h.kids h.tape).within in
    rw c.view-v.ensures (omega arith, w)

pub returns-then-not-same_bytes : goal.returns-then-not-same_bytes
returns-then-not-same_bytes c =
    let few : c.key_count-count.result ≤ 4 = let h = c.requires.keyed in omega (arith, few-keys c.args.keys.now.text.now h.key_list h.tabled.accepted h.path, c.key_count-count.ensures c.args.keys.now.text.now h.key_list h.path h.tabled h.place_is) in
    let long : OfPlace c.args.keys.now.text.now c.args.keys.now.table.now c.args.keys.now.paths c.args.own (λ K p. length (key_names_at K p) ≤ length c.args.values) = λ K p t e. let l : length c.args.values ≡ 4 = search rules in omega (arith, few, c.key_count-count.ensures c.args.keys.now.text.now K p t e) in
    let own_key : c.loop-j.j < length (key_names_at c.requires.keyed.key_list c.requires.keyed.path) = let h = c.requires.keyed in omega (arith, c.key_count-count.ensures c.args.keys.now.text.now h.key_list h.path h.tabled h.place_is, c.loop-j-test.true) in
    let value : (f : Forest) → Tape c.args.doc.now.src.now c.args.doc.now.tape.now c.args.lo c.args.hi f → Node c.args.doc.now.src.now c.args.doc.now.tape.now (c.find_key-x.result + 1) 0 (value_in (called (key_bytes c.args.keys.now.text.now c.args.keys.now.table.now (c.args.own + 1 + c.loop-j.j)) f)) = value-node c.loop-j.j c.requires.keyed (own_key) c.find_key-x.result (rw (c.part-key.ensures, c.key_name.ensures) at c.find_key-x.ensures) in
    λ K p t e f h.
    let a = c.args in
    let o = c.loop-j in
    let l : o.j < length (key_names_at K p) = omega (arith, c.key_count-count.ensures c.args.keys.now.text.now K p t e, c.loop-j-test.true) in
    let q = rw (c.part.ensures, c.view-v.ensures) at (simp between_is at c.same_bytes.ensures) in
    sym (o.invariant K p t e f h ∙ keys-differ a.s.now a.values (key_names_at K p) f o.j l (long K p t e) (key-name-is t p a.own e o.j l) (value f h).bytes-are (sym q ∙ c.if-not-same_bytes.true))

pub loop-j-preserved : goal.loop-j-preserved
loop-j-preserved c =
    let few : c.key_count-count.result ≤ 4 = let h = c.requires.keyed in omega (arith, few-keys c.args.keys.now.text.now h.key_list h.tabled.accepted h.path, c.key_count-count.ensures c.args.keys.now.text.now h.key_list h.path h.tabled h.place_is) in
    let long : OfPlace c.args.keys.now.text.now c.args.keys.now.table.now c.args.keys.now.paths c.args.own (λ K p. length (key_names_at K p) ≤ length c.args.values) = λ K p t e. let l : length c.args.values ≡ 4 = search rules in omega (arith, few, c.key_count-count.ensures c.args.keys.now.text.now K p t e) in
    let own_key : c.loop-j.j < length (key_names_at c.requires.keyed.key_list c.requires.keyed.path) = let h = c.requires.keyed in omega (arith, c.key_count-count.ensures c.args.keys.now.text.now h.key_list h.path h.tabled h.place_is, c.loop-j-test.true) in
    let value : (f : Forest) → Tape c.args.doc.now.src.now c.args.doc.now.tape.now c.args.lo c.args.hi f → Node c.args.doc.now.src.now c.args.doc.now.tape.now (c.find_key-x.result + 1) 0 (value_in (called (key_bytes c.args.keys.now.text.now c.args.keys.now.table.now (c.args.own + 1 + c.loop-j.j)) f)) = value-node c.loop-j.j c.requires.keyed (own_key) c.find_key-x.result (rw (c.part-key.ensures, c.key_name.ensures) at c.find_key-x.ensures) in
    let a = c.args in
    let o = c.loop-j in
    λ K p t e f h. let l : o.j < length (key_names_at K p) = omega (arith, c.key_count-count.ensures c.args.keys.now.text.now K p t e, c.loop-j-test.true) in let q = rw (c.part.ensures, c.view-v.ensures) at (simp between_is at c.same_bytes.ensures) in (o.invariant K p t e f h ∙ keys_on a.s.now a.values (key_names_at K p) f o.j l (long K p t e) (key-name-is t p a.own e o.j l) (value f h).bytes-are (sym q ∙ c.if-not-same_bytes.false))

pub returns : goal.returns
returns c =
    let few : c.key_count-count.result ≤ 4 = let h = c.requires.keyed in omega (arith, few-keys c.args.keys.now.text.now h.key_list h.tabled.accepted h.path, c.key_count-count.ensures c.args.keys.now.text.now h.key_list h.path h.tabled h.place_is) in
    let long : OfPlace c.args.keys.now.text.now c.args.keys.now.table.now c.args.keys.now.paths c.args.own (λ K p. length (key_names_at K p) ≤ length c.args.values) = λ K p t e. let l : length c.args.values ≡ 4 = search rules in omega (arith, few, c.key_count-count.ensures c.args.keys.now.text.now K p t e) in
    λ K p t e f h.
    let a = c.args in
    let o = c.loop-j in
    sym (o.invariant K p t e f h ∙ keys-done a.s.now a.values (key_names_at K p) f o.j (omega (arith, c.key_count-count.ensures c.args.keys.now.text.now K p t e, c.loop-j-test.false)) (long K p t e))
