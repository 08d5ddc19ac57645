-- `compare_keys` meets its contract: the values from key i on compare as all of them do.
use Prim.Native.Nat.{◌+◌, ◌<◌}
use native.Mathlib.Omega.{arith}
use mathlib.Core.Path.{◌≡◌, refl, sym, ◌∙◌, ap}
use lib.ListN.{length}
use Rattle.xml.specs.Forest.{Forest}
use Rattle.xml.specs.Tape.{Node, Tape}
use Rattle.xml.specs.TapeLaws.{bytes_at}
use Rattle.keys.specs.KeyList.{key_names_at}
use Rattle.keys.specs.Version.{called, value_in}
use Rattle.std.specs.Ordering.{ordering_index}
use Rattle.keys.specs.Ranks.{rank, compare_bytes, is-same, not-same}
use Rattle.keys.specs.LabelLaws.{key-room, key-within, key-name-is, key_bytes, value-node, values-differ, values-on, values-done}
use Rattle.keys.proofs.label.compare_keys.Goals as goal

pub key_count-count-requires : goal.key_count-count-requires
key_count-count-requires c = c.requires.0.tabled.held

pub loop-i-init : goal.loop-i-init
loop-i-init c = λ K p t e f1 f2 h1 h2. refl

pub overflow_add-own : goal.overflow_add-own
overflow_add-own c =
    let first : c.loop-i.i < length (key_names_at c.requires.0.key_list c.requires.0.path) = omega (arith, c.key_count-count.ensures c.args.keys.now.text.now c.requires.0.key_list c.requires.0.path c.requires.0.tabled c.requires.0.place_is, c.loop-i-test.true) in
    let room : c.args.own + 1 + c.loop-i.i < c.args.keys.now.paths = key-room c.requires.0.tabled c.requires.0.path c.args.own c.requires.0.place_is c.loop-i.i (first) in
    omega (arith, room, c.requires.0.tabled.few)

pub overflow_add-own-in-loop-i : goal.overflow_add-own-in-loop-i
overflow_add-own-in-loop-i c =
    let first : c.loop-i.i < length (key_names_at c.requires.0.key_list c.requires.0.path) = omega (arith, c.key_count-count.ensures c.args.keys.now.text.now c.requires.0.key_list c.requires.0.path c.requires.0.tabled c.requires.0.place_is, c.loop-i-test.true) in
    let room : c.args.own + 1 + c.loop-i.i < c.args.keys.now.paths = key-room c.requires.0.tabled c.requires.0.path c.args.own c.requires.0.place_is c.loop-i.i (first) in
    omega (arith, room, c.requires.0.tabled.few)

pub key_name-requires : goal.key_name-requires
key_name-requires c =
    let first : c.loop-i.i < length (key_names_at c.requires.0.key_list c.requires.0.path) = omega (arith, c.key_count-count.ensures c.args.keys.now.text.now c.requires.0.key_list c.requires.0.path c.requires.0.tabled c.requires.0.place_is, c.loop-i-test.true) in
    let room : c.args.own + 1 + c.loop-i.i < c.args.keys.now.paths = key-room c.requires.0.tabled c.requires.0.path c.args.own c.requires.0.place_is c.loop-i.i (first) in
    omega (arith, room, c.requires.0.tabled.held)

pub part-key-requires : goal.part-key-requires
part-key-requires c =
    let first : c.loop-i.i < length (key_names_at c.requires.0.key_list c.requires.0.path) = omega (arith, c.key_count-count.ensures c.args.keys.now.text.now c.requires.0.key_list c.requires.0.path c.requires.0.tabled c.requires.0.place_is, c.loop-i-test.true) in
    rw c.key_name.ensures (omega arith, key-within c.requires.0.tabled c.requires.0.path c.args.own c.requires.0.place_is c.loop-i.i first)

pub find_key-x-requires : goal.find_key-x-requires
find_key-x-requires c = record { forest = c.requires.0.kids; tape = c.requires.0.tape }

pub find_key-y-requires : goal.find_key-y-requires
find_key-y-requires c = record { forest = c.requires.1.kids; tape = c.requires.1.tape }

pub overflow_add-x : goal.overflow_add-x
overflow_add-x c =
    let first : c.loop-i.i < length (key_names_at c.requires.0.key_list c.requires.0.path) = omega (arith, c.key_count-count.ensures c.args.keys.now.text.now c.requires.0.key_list c.requires.0.path c.requires.0.tabled c.requires.0.place_is, c.loop-i-test.true) in
    let value-1 : (f : Forest) → Tape c.args.first.now.src.now c.args.first.now.tape.now c.args.lo1 c.args.hi1 f → Node c.args.first.now.src.now c.args.first.now.tape.now (c.find_key-x.result + 1) 0 (value_in (called (key_bytes c.args.keys.now.text.now c.args.keys.now.table.now (c.args.own + 1 + c.loop-i.i)) f)) = value-node c.loop-i.i c.requires.0 (first) c.find_key-x.result (rw (c.part-key.ensures, c.key_name.ensures) at c.find_key-x.ensures) in
    omega (arith, (value-1 c.requires.0.kids c.requires.0.tape).held)

pub view-v-requires : goal.view-v-requires
view-v-requires c =
    let first : c.loop-i.i < length (key_names_at c.requires.0.key_list c.requires.0.path) = omega (arith, c.key_count-count.ensures c.args.keys.now.text.now c.requires.0.key_list c.requires.0.path c.requires.0.tabled c.requires.0.place_is, c.loop-i-test.true) in
    let value-1 : (f : Forest) → Tape c.args.first.now.src.now c.args.first.now.tape.now c.args.lo1 c.args.hi1 f → Node c.args.first.now.src.now c.args.first.now.tape.now (c.find_key-x.result + 1) 0 (value_in (called (key_bytes c.args.keys.now.text.now c.args.keys.now.table.now (c.args.own + 1 + c.loop-i.i)) f)) = value-node c.loop-i.i c.requires.0 (first) c.find_key-x.result (rw (c.part-key.ensures, c.key_name.ensures) at c.find_key-x.ensures) in
    (value-1 c.requires.0.kids c.requires.0.tape).held

pub overflow_add-y : goal.overflow_add-y
overflow_add-y c =
    let second : c.loop-i.i < length (key_names_at c.requires.1.key_list c.requires.1.path) = omega (arith, c.key_count-count.ensures c.args.keys.now.text.now c.requires.1.key_list c.requires.1.path c.requires.1.tabled c.requires.1.place_is, c.loop-i-test.true) in
    let value-2 : (f : Forest) → Tape c.args.second.now.src.now c.args.second.now.tape.now c.args.lo2 c.args.hi2 f → Node c.args.second.now.src.now c.args.second.now.tape.now (c.find_key-y.result + 1) 0 (value_in (called (key_bytes c.args.keys.now.text.now c.args.keys.now.table.now (c.args.own + 1 + c.loop-i.i)) f)) = value-node c.loop-i.i c.requires.1 (second) c.find_key-y.result (rw (c.part-key.ensures, c.key_name.ensures) at c.find_key-y.ensures) in
    omega (arith, (value-2 c.requires.1.kids c.requires.1.tape).held, c.well_formed)

pub view-w-requires : goal.view-w-requires
view-w-requires c =
    let second : c.loop-i.i < length (key_names_at c.requires.1.key_list c.requires.1.path) = omega (arith, c.key_count-count.ensures c.args.keys.now.text.now c.requires.1.key_list c.requires.1.path c.requires.1.tabled c.requires.1.place_is, c.loop-i-test.true) in
    let value-2 : (f : Forest) → Tape c.args.second.now.src.now c.args.second.now.tape.now c.args.lo2 c.args.hi2 f → Node c.args.second.now.src.now c.args.second.now.tape.now (c.find_key-y.result + 1) 0 (value_in (called (key_bytes c.args.keys.now.text.now c.args.keys.now.table.now (c.args.own + 1 + c.loop-i.i)) f)) = value-node c.loop-i.i c.requires.1 (second) c.find_key-y.result (rw (c.part-key.ensures, c.key_name.ensures) at c.find_key-y.ensures) in
    (value-2 c.requires.1.kids c.requires.1.tape).held

pub part-requires : goal.part-requires
part-requires c =
    let first : c.loop-i.i < length (key_names_at c.requires.0.key_list c.requires.0.path) = omega (arith, c.key_count-count.ensures c.args.keys.now.text.now c.requires.0.key_list c.requires.0.path c.requires.0.tabled c.requires.0.place_is, c.loop-i-test.true) in
    let value-1 : (f : Forest) → Tape c.args.first.now.src.now c.args.first.now.tape.now c.args.lo1 c.args.hi1 f → Node c.args.first.now.src.now c.args.first.now.tape.now (c.find_key-x.result + 1) 0 (value_in (called (key_bytes c.args.keys.now.text.now c.args.keys.now.table.now (c.args.own + 1 + c.loop-i.i)) f)) = value-node c.loop-i.i c.requires.0 (first) c.find_key-x.result (rw (c.part-key.ensures, c.key_name.ensures) at c.find_key-x.ensures) in
    rw c.view-v.ensures (omega arith, (value-1 c.requires.0.kids c.requires.0.tape).within)

pub part-requires-in-loop-i : goal.part-requires-in-loop-i
part-requires-in-loop-i c =
    let second : c.loop-i.i < length (key_names_at c.requires.1.key_list c.requires.1.path) = omega (arith, c.key_count-count.ensures c.args.keys.now.text.now c.requires.1.key_list c.requires.1.path c.requires.1.tabled c.requires.1.place_is, c.loop-i-test.true) in
    let value-2 : (f : Forest) → Tape c.args.second.now.src.now c.args.second.now.tape.now c.args.lo2 c.args.hi2 f → Node c.args.second.now.src.now c.args.second.now.tape.now (c.find_key-y.result + 1) 0 (value_in (called (key_bytes c.args.keys.now.text.now c.args.keys.now.table.now (c.args.own + 1 + c.loop-i.i)) f)) = value-node c.loop-i.i c.requires.1 (second) c.find_key-y.result (rw (c.part-key.ensures, c.key_name.ensures) at c.find_key-y.ensures) in
    rw c.view-w.ensures (omega arith, (value-2 c.requires.1.kids c.requires.1.tape).within)

pub returns-then-is_ne : goal.returns-then-is_ne
returns-then-is_ne c K p t e f1 f2 h1 h2 =
    let compared : ordering_index c.compare_bytes-order.result ≡ rank (compare_bytes (bytes_at c.args.first.now.src.now c.args.first.now.tape.now (c.find_key-x.result + 1)) (bytes_at c.args.second.now.src.now c.args.second.now.tape.now (c.find_key-y.result + 1))) = rw (c.part.ensures, c.part-in-loop-i.ensures, c.view-v.ensures, c.view-w.ensures) at c.compare_bytes-order.ensures in
    let first : c.loop-i.i < length (key_names_at c.requires.0.key_list c.requires.0.path) = omega (arith, c.key_count-count.ensures c.args.keys.now.text.now c.requires.0.key_list c.requires.0.path c.requires.0.tabled c.requires.0.place_is, c.loop-i-test.true) in
    let value-1 : (f : Forest) → Tape c.args.first.now.src.now c.args.first.now.tape.now c.args.lo1 c.args.hi1 f → Node c.args.first.now.src.now c.args.first.now.tape.now (c.find_key-x.result + 1) 0 (value_in (called (key_bytes c.args.keys.now.text.now c.args.keys.now.table.now (c.args.own + 1 + c.loop-i.i)) f)) = value-node c.loop-i.i c.requires.0 (first) c.find_key-x.result (rw (c.part-key.ensures, c.key_name.ensures) at c.find_key-x.ensures) in
    let second : c.loop-i.i < length (key_names_at c.requires.1.key_list c.requires.1.path) = omega (arith, c.key_count-count.ensures c.args.keys.now.text.now c.requires.1.key_list c.requires.1.path c.requires.1.tabled c.requires.1.place_is, c.loop-i-test.true) in
    let value-2 : (f : Forest) → Tape c.args.second.now.src.now c.args.second.now.tape.now c.args.lo2 c.args.hi2 f → Node c.args.second.now.src.now c.args.second.now.tape.now (c.find_key-y.result + 1) 0 (value_in (called (key_bytes c.args.keys.now.text.now c.args.keys.now.table.now (c.args.own + 1 + c.loop-i.i)) f)) = value-node c.loop-i.i c.requires.1 (second) c.find_key-y.result (rw (c.part-key.ensures, c.key_name.ensures) at c.find_key-y.ensures) in
    let l : c.loop-i.i < length (key_names_at K p) = omega (arith, c.key_count-count.ensures c.args.keys.now.text.now K p t e, c.loop-i-test.true) in
    let o = compared in
    o ∙ sym (ap rank (c.loop-i.invariant K p t e f1 f2 h1 h2
    ∙ values-differ (key_names_at K p) f1 f2 c.loop-i.i l (key-name-is t p c.args.own e c.loop-i.i l) (value-1 f1 h1).bytes-are (value-2 f2 h2).bytes-are
    (λ z. not-same _ (sym c.is_ne.ensures ∙ c.if-is_ne.true) (o ∙ z))))

pub loop-i-preserved : goal.loop-i-preserved
loop-i-preserved c =
    let compared : ordering_index c.compare_bytes-order.result ≡ rank (compare_bytes (bytes_at c.args.first.now.src.now c.args.first.now.tape.now (c.find_key-x.result + 1)) (bytes_at c.args.second.now.src.now c.args.second.now.tape.now (c.find_key-y.result + 1))) = rw (c.part.ensures, c.part-in-loop-i.ensures, c.view-v.ensures, c.view-w.ensures) at c.compare_bytes-order.ensures in
    let first : c.loop-i.i < length (key_names_at c.requires.0.key_list c.requires.0.path) = omega (arith, c.key_count-count.ensures c.args.keys.now.text.now c.requires.0.key_list c.requires.0.path c.requires.0.tabled c.requires.0.place_is, c.loop-i-test.true) in
    let value-1 : (f : Forest) → Tape c.args.first.now.src.now c.args.first.now.tape.now c.args.lo1 c.args.hi1 f → Node c.args.first.now.src.now c.args.first.now.tape.now (c.find_key-x.result + 1) 0 (value_in (called (key_bytes c.args.keys.now.text.now c.args.keys.now.table.now (c.args.own + 1 + c.loop-i.i)) f)) = value-node c.loop-i.i c.requires.0 (first) c.find_key-x.result (rw (c.part-key.ensures, c.key_name.ensures) at c.find_key-x.ensures) in
    let second : c.loop-i.i < length (key_names_at c.requires.1.key_list c.requires.1.path) = omega (arith, c.key_count-count.ensures c.args.keys.now.text.now c.requires.1.key_list c.requires.1.path c.requires.1.tabled c.requires.1.place_is, c.loop-i-test.true) in
    let value-2 : (f : Forest) → Tape c.args.second.now.src.now c.args.second.now.tape.now c.args.lo2 c.args.hi2 f → Node c.args.second.now.src.now c.args.second.now.tape.now (c.find_key-y.result + 1) 0 (value_in (called (key_bytes c.args.keys.now.text.now c.args.keys.now.table.now (c.args.own + 1 + c.loop-i.i)) f)) = value-node c.loop-i.i c.requires.1 (second) c.find_key-y.result (rw (c.part-key.ensures, c.key_name.ensures) at c.find_key-y.ensures) in
    λ K p t e f1 f2 h1 h2.
    let l : c.loop-i.i < length (key_names_at K p) = omega (arith, c.key_count-count.ensures c.args.keys.now.text.now K p t e, c.loop-i-test.true) in
    let o = compared in
    c.loop-i.invariant K p t e f1 f2 h1 h2
    ∙ values-on (key_names_at K p) f1 f2 c.loop-i.i l (key-name-is t p c.args.own e c.loop-i.i l) (value-1 f1 h1).bytes-are (value-2 f2 h2).bytes-are
    (sym o ∙ is-same _ (sym c.is_ne.ensures ∙ c.if-is_ne.false))

pub returns : goal.returns
returns c K p t e f1 f2 h1 h2 = sym (ap rank (c.loop-i.invariant K p t e f1 f2 h1 h2
    ∙ values-done (key_names_at K p) f1 f2 c.loop-i.i (omega (arith, c.key_count-count.ensures c.args.keys.now.text.now K p t e, c.loop-i-test.false))))
