-- `compare_labels_at` meets its contract: names that differ decide, or the key values of the one path that both have.
use native.Mathlib.Omega.{arith}
use mathlib.Core.Path.{◌≡◌, sym, ◌∙◌, ap}
use Rattle.xml.specs.Bytes.{Bytes}
use Rattle.xml.specs.Tape.{Node}
use Rattle.keys.specs.Version.{◌▸◌}
use Rattle.std.specs.Ordering.{ordering_index}
use Rattle.keys.specs.Ranks.{rank, compare_bytes, is-same, not-same}
use Rattle.keys.specs.LabelLaws.{names-differ, names_same, names-on}
use Rattle.keys.proofs.label.compare_labels_at.Goals as goal

pub part-requires : goal.part-requires
part-requires c = rw c.view-v.ensures (omega arith, c.requires.first.node.within)

pub part-requires-2 : goal.part-requires-2
part-requires-2 c = rw c.view-w.ensures (omega arith, c.requires.second.node.within)

pub returns-then-is_ne : goal.returns-then-is_ne
returns-then-is_ne c K p m1 k1 m2 k2 t e a1 b1 a2 b2 =
    let named : (m1 m2 : Bytes) → Node c.args.first.now.src.now c.args.first.now.tape.now c.args.p1 1 m1 → Node c.args.second.now.src.now c.args.second.now.tape.now c.args.p2 1 m2 → ordering_index c.compare_bytes-names.result ≡ rank (compare_bytes m1 m2) = λ m1 m2 a1 a2. rw (c.part.ensures, c.part-2.ensures, c.view-v.ensures, c.view-w.ensures, a1.bytes-are, a2.bytes-are) at c.compare_bytes-names.ensures in
    let o = named m1 m2 a1 a2 in
    o ∙ sym (ap rank (names-differ K p m1 k1 m2 k2 (λ z. not-same _ (sym c.is_ne.ensures ∙ c.if-is_ne.true) (o ∙ z))))

pub overflow_add-p1 : goal.overflow_add-p1
overflow_add-p1 c = omega (arith, c.requires.first.node.held, c.well_formed)

pub overflow_add-p2 : goal.overflow_add-p2
overflow_add-p2 c = omega (arith, c.requires.second.node.held, c.well_formed)

pub compare_keys-requires : goal.compare_keys-requires
compare_keys-requires c =
    let named : (m1 m2 : Bytes) → Node c.args.first.now.src.now c.args.first.now.tape.now c.args.p1 1 m1 → Node c.args.second.now.src.now c.args.second.now.tape.now c.args.p2 1 m2 → ordering_index c.compare_bytes-names.result ≡ rank (compare_bytes m1 m2) = λ m1 m2 a1 a2. rw (c.part.ensures, c.part-2.ensures, c.view-v.ensures, c.view-w.ensures, a1.bytes-are, a2.bytes-are) at c.compare_bytes-names.ensures in
    let g = c.requires in
    let x = g.first in
    let y = g.second in
    let same = names_same g.key_list g.path x.name x.kids y.name y.kids (sym (named x.name y.name x.node y.node) ∙ is-same _ (sym c.is_ne.ensures ∙ c.if-is_ne.false)) in
    rw (c.view-v.ensures, c.view-w.ensures) (
      record { key_list = g.key_list; path = g.path ▸ x.name; tabled = g.tabled; place_is = g.place_is; kids = x.kids; tape = x.tape; once = x.once },
      record { key_list = g.key_list; path = g.path ▸ y.name; tabled = g.tabled; place_is = rw same at g.place_is; kids = y.kids; tape = y.tape; once = y.once },
    )

pub returns : goal.returns
returns c K p m1 k1 m2 k2 t e a1 b1 a2 b2 =
    let named : (m1 m2 : Bytes) → Node c.args.first.now.src.now c.args.first.now.tape.now c.args.p1 1 m1 → Node c.args.second.now.src.now c.args.second.now.tape.now c.args.p2 1 m2 → ordering_index c.compare_bytes-names.result ≡ rank (compare_bytes m1 m2) = λ m1 m2 a1 a2. rw (c.part.ensures, c.part-2.ensures, c.view-v.ensures, c.view-w.ensures, a1.bytes-are, a2.bytes-are) at c.compare_bytes-names.ensures in
    let o = named m1 m2 a1 a2 in
    (rw (c.view-v.ensures, c.view-w.ensures) at c.compare_keys.ensures) K (p ▸ m1) t e k1 k2 b1 b2
    ∙ sym (ap rank (names-on K p m1 k1 m2 k2 (sym o ∙ is-same _ (sym c.is_ne.ensures ∙ c.if-is_ne.false))))
