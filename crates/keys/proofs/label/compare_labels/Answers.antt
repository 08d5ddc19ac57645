-- `compare_labels` meets its contract: names that differ decide, or the key values of the one path that both have.
use native.Mathlib.Omega.{arith}
use mathlib.Core.Path.{◌≡◌, sym, ◌∙◌, ap}
use Rattle.xml.specs.Bytes.{Bytes}
use Rattle.xml.specs.Tape.{Node}
use Rattle.keys.specs.Version.{◌▸◌}
use Rattle.std.specs.Ordering.{ordering_index}
use Rattle.keys.specs.Ranks.{rank, compare_bytes, is-same, not-same}
use Rattle.keys.specs.LabelLaws.{names-differ, names_same, names-on}
use Rattle.keys.proofs.label.compare_labels.Goals as goal

pub part-requires : goal.part-requires
part-requires c = rw c.view-v.ensures (omega arith, c.requires.0.node.within)

pub part-requires-2 : goal.part-requires-2
part-requires-2 c = rw c.view-w.ensures (omega arith, c.requires.1.node.within)

pub returns-then-is_ne : goal.returns-then-is_ne
returns-then-is_ne c K p t e m1 k1 m2 k2 a1 b1 a2 b2 =
    let named : (m1 m2 : Bytes) → Node c.args.first.now.src.now c.args.first.now.tape.now c.args.p1 1 m1 → Node c.args.second.now.src.now c.args.second.now.tape.now c.args.p2 1 m2 → ordering_index c.compare_bytes-names.result ≡ rank (compare_bytes m1 m2) = λ m1 m2 a1 a2. rw (c.part.ensures, c.part-2.ensures, c.view-v.ensures, c.view-w.ensures, a1.bytes-are, a2.bytes-are) at c.compare_bytes-names.ensures in
    let o = named m1 m2 a1 a2 in
    o ∙ sym (ap rank (names-differ K p m1 k1 m2 k2 (λ z. not-same _ (sym c.is_ne.ensures ∙ c.if-is_ne.true) (o ∙ z))))

pub child-own-requires : goal.child-own-requires
child-own-requires c = record { key_list = c.requires.0.key_list; path = c.requires.0.path; table = c.requires.0.tabled; place_is = c.requires.0.place_is }

pub part-requires-3 : goal.part-requires-3
part-requires-3 c = rw c.view-v.ensures (omega arith, c.requires.0.node.within)

pub overflow_add-p1 : goal.overflow_add-p1
overflow_add-p1 c = omega (arith, c.requires.0.node.held, c.well_formed)

pub overflow_add-p2 : goal.overflow_add-p2
overflow_add-p2 c = omega (arith, c.requires.1.node.held, c.well_formed)

pub compare_keys-requires : goal.compare_keys-requires
compare_keys-requires c =
    let named : (m1 m2 : Bytes) → Node c.args.first.now.src.now c.args.first.now.tape.now c.args.p1 1 m1 → Node c.args.second.now.src.now c.args.second.now.tape.now c.args.p2 1 m2 → ordering_index c.compare_bytes-names.result ≡ rank (compare_bytes m1 m2) = λ m1 m2 a1 a2. rw (c.part.ensures, c.part-2.ensures, c.view-v.ensures, c.view-w.ensures, a1.bytes-are, a2.bytes-are) at c.compare_bytes-names.ensures in
    let alike : c.requires.0.name ≡ c.requires.1.name = names_same c.requires.0.key_list c.requires.0.path c.requires.0.name c.requires.0.kids c.requires.1.name c.requires.1.kids (sym (named c.requires.0.name c.requires.1.name c.requires.0.node c.requires.1.node) ∙ is-same _ (sym c.is_ne.ensures ∙ c.if-is_ne.false)) in
    rw (c.view-v.ensures, c.view-w.ensures) (
      record {
        key_list = c.requires.0.key_list;
        path = c.requires.0.path ▸ c.requires.0.name;
        tabled = c.requires.0.tabled;
        place_is = sym (rw (c.part-3.ensures, c.view-v.ensures, c.requires.0.node.bytes-are) at (c.child-own.ensures c.requires.0.key_list c.requires.0.path c.requires.0.tabled c.requires.0.place_is));
        kids = c.requires.0.kids;
        tape = c.requires.0.tape;
        once = c.requires.0.once;
      },
      record {
        key_list = c.requires.1.key_list;
        path = c.requires.1.path ▸ c.requires.1.name;
        tabled = c.requires.1.tabled;
        place_is = sym (rw (c.part-3.ensures, c.view-v.ensures, c.requires.0.node.bytes-are, alike) at (c.child-own.ensures c.requires.1.key_list c.requires.1.path c.requires.1.tabled c.requires.1.place_is));
        kids = c.requires.1.kids;
        tape = c.requires.1.tape;
        once = c.requires.1.once;
      },
    )

pub returns : goal.returns
returns c K p t e m1 k1 m2 k2 a1 b1 a2 b2 =
    let named : (m1 m2 : Bytes) → Node c.args.first.now.src.now c.args.first.now.tape.now c.args.p1 1 m1 → Node c.args.second.now.src.now c.args.second.now.tape.now c.args.p2 1 m2 → ordering_index c.compare_bytes-names.result ≡ rank (compare_bytes m1 m2) = λ m1 m2 a1 a2. rw (c.part.ensures, c.part-2.ensures, c.view-v.ensures, c.view-w.ensures, a1.bytes-are, a2.bytes-are) at c.compare_bytes-names.ensures in
    let o = named m1 m2 a1 a2 in
    let s = sym (rw (c.part-3.ensures, c.view-v.ensures, a1.bytes-are) at (c.child-own.ensures K p t e)) in
    (rw (c.view-v.ensures, c.view-w.ensures) at c.compare_keys.ensures) K (p ▸ m1) t s k1 k2 b1 b2
    ∙ sym (ap rank (names-on K p m1 k1 m2 k2 (sym o ∙ is-same _ (sym c.is_ne.ensures ∙ c.if-is_ne.false))))
