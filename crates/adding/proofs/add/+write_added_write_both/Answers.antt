-- `write_added` and `write_both` meet their contracts: of the siblings before nodes p and q all is written, each into the part of the output
-- that it was lent, and what is left to add is what they add to.
use Rattle.std.proofs.lemmas.Slice.{between_is}
use Rattle.std.proofs.lemmas.List.{length-take}
use native.Mathlib.Omega.{arith}
use Rattle.std.specs.Ordering.{ordering_index}
use mathlib.Core.Path.{◌≡◌, refl, sym, ◌∙◌, ap}
use mathlib.Core.Bool.{true}
use mathlib.Core.Option.{Option}
use lib.ListN.{length}
use borrow.Rule.Slice.PartMut.{put_mid}
use Rattle.xml.specs.Bytes.{Bytes}
use Rattle.xml.specs.Forest.{Forest}
use Rattle.xml.specs.OverLaws.{length_at, lent_back}
use Rattle.xml.specs.Tape.{next_at}
use Rattle.xml.specs.TapeLaws.{front, tape-le}
use Rattle.keys.specs.KeyList.{Path, KeyList, above}
use Rattle.keys.specs.Version.{◌▸◌, label}
use Rattle.keys.specs.Table.{place_of, Table}
use Rattle.timestamp.specs.Times.{Times}
use Rattle.versions.specs.Walk.{first_label, add_in}
use Rattle.versions.specs.AddParts.{sibling, set_in, both_part, inside, place_in, At}
use Rattle.adding.specs.Growth.{Grew, grew-lent}
use Rattle.versions.specs.TimedLaws.{says-set}
use Rattle.versions.specs.AddWalk.{Held, Both, at_front, at_forward, at_place}
use Rattle.adding.specs.AddWay.{Way, way-none, way-old, way-new, way-both, way-done, next_of, other_of, order_at, order-at, there, both_of, both-grew, inside-above, inside-front, room-more, room-inner, room-outer, inner-held, opening-short, closing-short}
use Prim.Native.Nat.{ℕ, ◌+◌, ◌*◌, ◌-◌, ◌<◌, ◌≤◌}
use Rattle.adding.proofs.add.+write_added_write_both.Goals as goal

pub write_added-is_above-requires : goal.write_added-is_above-requires
write_added-is_above-requires t c = c.requires.0.held.tabled.held

pub write_added-write_contents-requires : goal.write_added-write_contents-requires
write_added-write_contents-requires t c = let h = c.requires.0.held in
    let a = sym (c.is_above.ensures c.args.keys.now.text.now c.requires.0.key_list c.requires.0.path h.tabled h.place_is) ∙ c.if-not-is_above.true in
    (record { forest = c.requires.0.forest; tape = h.tape; legal = h.front a }, h.set.ordered, h.set.within, h.set.short, record { forest = c.requires.0.other; tape = h.vtape }, c.requires.1, c.requires.2, c.requires.3, omega (arith, c.requires.4))

pub write_added-returns-then-not-is_above : goal.write_added-returns-then-not-is_above
write_added-returns-then-not-is_above t c K w u f v g = let a = sym (c.is_above.ensures c.args.keys.now.text.now K w g.tabled g.place_is) ∙ c.if-not-is_above.true in
    rw (inside-front K c.args.n w u f v a) (c.write_contents.ensures u f v g.tape g.vtape (g.front a) g.plain g.set)

pub write_added-loop-p-init : goal.write_added-loop-p-init
write_added-loop-p-init t c = (omega arith, omega arith, omega arith, omega arith, refl, λ K w u f v g a. way-none g.tape g.vtape (g.siblings a) (g.version a))

pub write_added-own_place-own-requires : goal.write_added-own_place-own-requires
write_added-own_place-own-requires t c =
    let above-is : (K : KeyList) (w : Path) → Table c.args.keys.now.text.now c.args.keys.now.table.now c.args.keys.now.paths K → place_of K w ≡ c.args.place → above K w ≡ true = λ K w a b. sym (c.is_above.ensures c.args.keys.now.text.now K w a b) ∙ c.if-not-is_above.false in
    let way : Way c.args.archive.now.src.now c.args.archive.now.tape.now c.loop-p.p c.args.hi c.args.version.now.src.now c.args.version.now.tape.now c.loop-p.q c.args.vhi c.args.n c.requires.0.key_list c.requires.0.path c.requires.0.times (add_in c.requires.0.key_list c.args.n c.requires.0.path c.requires.0.times c.requires.0.forest c.requires.0.other) c.requires.0.forest c.args.out.now c.args.at c.loop-p.to c.loop-p.out c.loop-p.fresh = let h = c.requires.0 in c.loop-p.invariant.5 h.key_list h.path h.times h.forest h.other h.held (above-is h.key_list h.path h.held.tabled h.held.place_is) in
    let x = way in
    let s = next_of x c.loop-p-test.true in
    let h = c.requires.0 in
    rw (at_place s.at) (
      record { key_list = h.key_list; path = h.path; tabled = h.held.tabled; place_is = h.held.place_is; name = s.name; kids = s.kids; node = s.at.node; tape = s.at.inner; once = s.keys },
      (front x.tape c.loop-p-test.true).held,
    )

pub write_added-order_of-requires : goal.write_added-order_of-requires
write_added-order_of-requires t c =
    let above-is : (K : KeyList) (w : Path) → Table c.args.keys.now.text.now c.args.keys.now.table.now c.args.keys.now.paths K → place_of K w ≡ c.args.place → above K w ≡ true = λ K w a b. sym (c.is_above.ensures c.args.keys.now.text.now K w a b) ∙ c.if-not-is_above.false in
    let way : Way c.args.archive.now.src.now c.args.archive.now.tape.now c.loop-p.p c.args.hi c.args.version.now.src.now c.args.version.now.tape.now c.loop-p.q c.args.vhi c.args.n c.requires.0.key_list c.requires.0.path c.requires.0.times (add_in c.requires.0.key_list c.args.n c.requires.0.path c.requires.0.times c.requires.0.forest c.requires.0.other) c.requires.0.forest c.args.out.now c.args.at c.loop-p.to c.loop-p.out c.loop-p.fresh = let h = c.requires.0 in c.loop-p.invariant.5 h.key_list h.path h.times h.forest h.other h.held (above-is h.key_list h.path h.held.tabled h.held.place_is) in
    let x = way in
    let s = next_of x c.loop-p-test.true in
    let h = c.requires.0.held in
    record { key_list = c.requires.0.key_list; path = c.requires.0.path; tabled = h.tabled; place_is = sym (c.own_place-own.ensures c.requires.0.key_list c.requires.0.path h.tabled h.place_is s.own s.name s.kids s.at); own = s.own; name = s.name; kids = s.kids; at = s.at; keys = s.keys; other = x.other; vtape = x.vtape; version = x.version }

pub write_added-view-w-requires : goal.write_added-view-w-requires
write_added-view-w-requires t c =
    let above-is : (K : KeyList) (w : Path) → Table c.args.keys.now.text.now c.args.keys.now.table.now c.args.keys.now.paths K → place_of K w ≡ c.args.place → above K w ≡ true = λ K w a b. sym (c.is_above.ensures c.args.keys.now.text.now K w a b) ∙ c.if-not-is_above.false in
    let way : Way c.args.archive.now.src.now c.args.archive.now.tape.now c.loop-p.p c.args.hi c.args.version.now.src.now c.args.version.now.tape.now c.loop-p.q c.args.vhi c.args.n c.requires.0.key_list c.requires.0.path c.requires.0.times (add_in c.requires.0.key_list c.args.n c.requires.0.path c.requires.0.times c.requires.0.forest c.requires.0.other) c.requires.0.forest c.args.out.now c.args.at c.loop-p.to c.loop-p.out c.loop-p.fresh = let h = c.requires.0 in c.loop-p.invariant.5 h.key_list h.path h.times h.forest h.other h.held (above-is h.key_list h.path h.held.tabled h.held.place_is) in
    let newer : c.loop-p.q < c.args.vhi = let x = way in let h = c.requires.0 in there x c.loop-p-test.true (λ z. omega (arith, sym (order-at x c.loop-p-test.true (c.own_place-own.ensures h.key_list h.path h.held.tabled h.held.place_is) (c.order_of.ensures h.key_list h.path h.held.tabled)) ∙ z, ap ordering_index c.in-Greater.is)) in
    (front way.vtape newer).held

pub write_added-slice_bounds-put_newest-count : goal.write_added-slice_bounds-put_newest-count
write_added-slice_bounds-put_newest-count t c = omega (arith, c.least-from.ensures)

pub write_added-slice_bounds-put_newest-start : goal.write_added-slice_bounds-put_newest-start
write_added-slice_bounds-put_newest-start t c = omega (arith, c.least-from.ensures)

pub write_added-put_newest-to-requires : goal.write_added-put_newest-to-requires
write_added-put_newest-to-requires t c =
    let above-is : (K : KeyList) (w : Path) → Table c.args.keys.now.text.now c.args.keys.now.table.now c.args.keys.now.paths K → place_of K w ≡ c.args.place → above K w ≡ true = λ K w a b. sym (c.is_above.ensures c.args.keys.now.text.now K w a b) ∙ c.if-not-is_above.false in
    let way : Way c.args.archive.now.src.now c.args.archive.now.tape.now c.loop-p.p c.args.hi c.args.version.now.src.now c.args.version.now.tape.now c.loop-p.q c.args.vhi c.args.n c.requires.0.key_list c.requires.0.path c.requires.0.times (add_in c.requires.0.key_list c.args.n c.requires.0.path c.requires.0.times c.requires.0.forest c.requires.0.other) c.requires.0.forest c.args.out.now c.args.at c.loop-p.to c.loop-p.out c.loop-p.fresh = let h = c.requires.0 in c.loop-p.invariant.5 h.key_list h.path h.times h.forest h.other h.held (above-is h.key_list h.path h.held.tabled h.held.place_is) in
    let newer : c.loop-p.q < c.args.vhi = let x = way in let h = c.requires.0 in there x c.loop-p-test.true (λ z. omega (arith, sym (order-at x c.loop-p-test.true (c.own_place-own.ensures h.key_list h.path h.held.tabled h.held.place_is) (c.order_of.ensures h.key_list h.path h.held.tabled)) ∙ z, ap ordering_index c.in-Greater.is)) in
    let x = way in
    let o = other_of x newer in
    let g = front x.vtape newer in
    rw c.view-w.ensures (c.requires.1, record { forest = _; tape = o.here }, omega (arith, g.inside, c.requires.3), omega (arith, c.loop-p.invariant.2, c.requires.4))

pub write_added-overflow_add-to : goal.write_added-overflow_add-to
write_added-overflow_add-to t c =
    let above-is : (K : KeyList) (w : Path) → Table c.args.keys.now.text.now c.args.keys.now.table.now c.args.keys.now.paths K → place_of K w ≡ c.args.place → above K w ≡ true = λ K w a b. sym (c.is_above.ensures c.args.keys.now.text.now K w a b) ∙ c.if-not-is_above.false in
    let way : Way c.args.archive.now.src.now c.args.archive.now.tape.now c.loop-p.p c.args.hi c.args.version.now.src.now c.args.version.now.tape.now c.loop-p.q c.args.vhi c.args.n c.requires.0.key_list c.requires.0.path c.requires.0.times (add_in c.requires.0.key_list c.args.n c.requires.0.path c.requires.0.times c.requires.0.forest c.requires.0.other) c.requires.0.forest c.args.out.now c.args.at c.loop-p.to c.loop-p.out c.loop-p.fresh = let h = c.requires.0 in c.loop-p.invariant.5 h.key_list h.path h.times h.forest h.other h.held (above-is h.key_list h.path h.held.tabled h.held.place_is) in
    let newer : c.loop-p.q < c.args.vhi = let x = way in let h = c.requires.0 in there x c.loop-p-test.true (λ z. omega (arith, sym (order-at x c.loop-p-test.true (c.own_place-own.ensures h.key_list h.path h.held.tabled h.held.place_is) (c.order_of.ensures h.key_list h.path h.held.tabled)) ∙ z, ap ordering_index c.in-Greater.is)) in
    let g = front way.vtape newer in
    omega (arith, c.loop-p.invariant.2, c.requires.4, g.forward, g.inside, (rw c.view-w.ensures at c.put_newest-to.ensures).1)

pub write_added-overflow_sub-fresh : goal.write_added-overflow_sub-fresh
write_added-overflow_sub-fresh t c =
    let above-is : (K : KeyList) (w : Path) → Table c.args.keys.now.text.now c.args.keys.now.table.now c.args.keys.now.paths K → place_of K w ≡ c.args.place → above K w ≡ true = λ K w a b. sym (c.is_above.ensures c.args.keys.now.text.now K w a b) ∙ c.if-not-is_above.false in
    let way : Way c.args.archive.now.src.now c.args.archive.now.tape.now c.loop-p.p c.args.hi c.args.version.now.src.now c.args.version.now.tape.now c.loop-p.q c.args.vhi c.args.n c.requires.0.key_list c.requires.0.path c.requires.0.times (add_in c.requires.0.key_list c.args.n c.requires.0.path c.requires.0.times c.requires.0.forest c.requires.0.other) c.requires.0.forest c.args.out.now c.args.at c.loop-p.to c.loop-p.out c.loop-p.fresh = let h = c.requires.0 in c.loop-p.invariant.5 h.key_list h.path h.times h.forest h.other h.held (above-is h.key_list h.path h.held.tabled h.held.place_is) in
    let newer : c.loop-p.q < c.args.vhi = let x = way in let h = c.requires.0 in there x c.loop-p-test.true (λ z. omega (arith, sym (order-at x c.loop-p-test.true (c.own_place-own.ensures h.key_list h.path h.held.tabled h.held.place_is) (c.order_of.ensures h.key_list h.path h.held.tabled)) ∙ z, ap ordering_index c.in-Greater.is)) in
    rw c.view-w.ensures (omega (arith, (front way.vtape newer).forward))

pub write_added-overflow_add-fresh : goal.write_added-overflow_add-fresh
write_added-overflow_add-fresh t c =
    let above-is : (K : KeyList) (w : Path) → Table c.args.keys.now.text.now c.args.keys.now.table.now c.args.keys.now.paths K → place_of K w ≡ c.args.place → above K w ≡ true = λ K w a b. sym (c.is_above.ensures c.args.keys.now.text.now K w a b) ∙ c.if-not-is_above.false in
    let way : Way c.args.archive.now.src.now c.args.archive.now.tape.now c.loop-p.p c.args.hi c.args.version.now.src.now c.args.version.now.tape.now c.loop-p.q c.args.vhi c.args.n c.requires.0.key_list c.requires.0.path c.requires.0.times (add_in c.requires.0.key_list c.args.n c.requires.0.path c.requires.0.times c.requires.0.forest c.requires.0.other) c.requires.0.forest c.args.out.now c.args.at c.loop-p.to c.loop-p.out c.loop-p.fresh = let h = c.requires.0 in c.loop-p.invariant.5 h.key_list h.path h.times h.forest h.other h.held (above-is h.key_list h.path h.held.tabled h.held.place_is) in
    let newer : c.loop-p.q < c.args.vhi = let x = way in let h = c.requires.0 in there x c.loop-p-test.true (λ z. omega (arith, sym (order-at x c.loop-p-test.true (c.own_place-own.ensures h.key_list h.path h.held.tabled h.held.place_is) (c.order_of.ensures h.key_list h.path h.held.tabled)) ∙ z, ap ordering_index c.in-Greater.is)) in
    rw c.view-w.ensures (omega (arith, (front way.vtape newer).inside, c.loop-p.invariant.3, c.requires.3))

pub write_added-loop-p-smaller-in-Greater : goal.write_added-loop-p-smaller-in-Greater
write_added-loop-p-smaller-in-Greater t c =
    let above-is : (K : KeyList) (w : Path) → Table c.args.keys.now.text.now c.args.keys.now.table.now c.args.keys.now.paths K → place_of K w ≡ c.args.place → above K w ≡ true = λ K w a b. sym (c.is_above.ensures c.args.keys.now.text.now K w a b) ∙ c.if-not-is_above.false in
    let way : Way c.args.archive.now.src.now c.args.archive.now.tape.now c.loop-p.p c.args.hi c.args.version.now.src.now c.args.version.now.tape.now c.loop-p.q c.args.vhi c.args.n c.requires.0.key_list c.requires.0.path c.requires.0.times (add_in c.requires.0.key_list c.args.n c.requires.0.path c.requires.0.times c.requires.0.forest c.requires.0.other) c.requires.0.forest c.args.out.now c.args.at c.loop-p.to c.loop-p.out c.loop-p.fresh = let h = c.requires.0 in c.loop-p.invariant.5 h.key_list h.path h.times h.forest h.other h.held (above-is h.key_list h.path h.held.tabled h.held.place_is) in
    let newer : c.loop-p.q < c.args.vhi = let x = way in let h = c.requires.0 in there x c.loop-p-test.true (λ z. omega (arith, sym (order-at x c.loop-p-test.true (c.own_place-own.ensures h.key_list h.path h.held.tabled h.held.place_is) (c.order_of.ensures h.key_list h.path h.held.tabled)) ∙ z, ap ordering_index c.in-Greater.is)) in
    let g = front way.vtape newer in
    rw c.view-w.ensures (omega (arith, g.forward, g.inside))

pub write_added-loop-p-preserved-in-Greater : goal.write_added-loop-p-preserved-in-Greater
write_added-loop-p-preserved-in-Greater t c =
    let above-is : (K : KeyList) (w : Path) → Table c.args.keys.now.text.now c.args.keys.now.table.now c.args.keys.now.paths K → place_of K w ≡ c.args.place → above K w ≡ true = λ K w a b. sym (c.is_above.ensures c.args.keys.now.text.now K w a b) ∙ c.if-not-is_above.false in
    let way : Way c.args.archive.now.src.now c.args.archive.now.tape.now c.loop-p.p c.args.hi c.args.version.now.src.now c.args.version.now.tape.now c.loop-p.q c.args.vhi c.args.n c.requires.0.key_list c.requires.0.path c.requires.0.times (add_in c.requires.0.key_list c.args.n c.requires.0.path c.requires.0.times c.requires.0.forest c.requires.0.other) c.requires.0.forest c.args.out.now c.args.at c.loop-p.to c.loop-p.out c.loop-p.fresh = let h = c.requires.0 in c.loop-p.invariant.5 h.key_list h.path h.times h.forest h.other h.held (above-is h.key_list h.path h.held.tabled h.held.place_is) in
    let newer : c.loop-p.q < c.args.vhi = let x = way in let h = c.requires.0 in there x c.loop-p-test.true (λ z. omega (arith, sym (order-at x c.loop-p-test.true (c.own_place-own.ensures h.key_list h.path h.held.tabled h.held.place_is) (c.order_of.ensures h.key_list h.path h.held.tabled)) ∙ z, ap ordering_index c.in-Greater.is)) in
    let e = c.view-w.ensures in
    let l = c.loop-p-test.true in
    let x = way in
    let o = other_of x newer in
    let g = front x.vtape newer in
    let y = rw e at c.put_newest-to.ensures in
    rw e (
      c.loop-p.invariant.0,
      omega (arith, c.loop-p.invariant.1, g.forward),
      omega (arith, c.loop-p.invariant.2, g.forward, g.inside, y.1),
      omega (arith, c.loop-p.invariant.3, g.forward, g.inside),
      ap length (lent_back c.loop-p.out c.loop-p.to c.least-from.result c.least-from.ensures (y.0 _ o.here)).bytes ∙ length_at _ _ _ ∙ c.loop-p.invariant.4,
      λ K w u f v h a. let z = c.loop-p.invariant.5 K w u f v h a in way-new z l (order-at z l (c.own_place-own.ensures K w h.tabled h.place_is) (c.order_of.ensures K w h.tabled) ∙ ap ordering_index c.in-Greater.is) (λ g k. lent_back c.loop-p.out c.loop-p.to c.least-from.result c.least-from.ensures (y.0 g k)),
    )

pub write_added-slice_bounds-write_old-count : goal.write_added-slice_bounds-write_old-count
write_added-slice_bounds-write_old-count t c = omega (arith, c.least-from.ensures)

pub write_added-slice_bounds-write_old-start : goal.write_added-slice_bounds-write_old-start
write_added-slice_bounds-write_old-start t c = omega (arith, c.least-from.ensures)

pub write_added-write_old-to-requires : goal.write_added-write_old-to-requires
write_added-write_old-to-requires t c =
    let above-is : (K : KeyList) (w : Path) → Table c.args.keys.now.text.now c.args.keys.now.table.now c.args.keys.now.paths K → place_of K w ≡ c.args.place → above K w ≡ true = λ K w a b. sym (c.is_above.ensures c.args.keys.now.text.now K w a b) ∙ c.if-not-is_above.false in
    let way : Way c.args.archive.now.src.now c.args.archive.now.tape.now c.loop-p.p c.args.hi c.args.version.now.src.now c.args.version.now.tape.now c.loop-p.q c.args.vhi c.args.n c.requires.0.key_list c.requires.0.path c.requires.0.times (add_in c.requires.0.key_list c.args.n c.requires.0.path c.requires.0.times c.requires.0.forest c.requires.0.other) c.requires.0.forest c.args.out.now c.args.at c.loop-p.to c.loop-p.out c.loop-p.fresh = let h = c.requires.0 in c.loop-p.invariant.5 h.key_list h.path h.times h.forest h.other h.held (above-is h.key_list h.path h.held.tabled h.held.place_is) in
    let x = way in
    let l = c.loop-p-test.true in
    let s = next_of x l in
    let g = front x.tape l in
    let h = c.requires.0.held.set in
    (g.forward, record { forest = _; tape = s.at.here }, omega (arith, g.inside, c.requires.2), h.ordered, h.within, h.short)

pub write_added-overflow_add-to-in-Less : goal.write_added-overflow_add-to-in-Less
write_added-overflow_add-to-in-Less t c =
    let above-is : (K : KeyList) (w : Path) → Table c.args.keys.now.text.now c.args.keys.now.table.now c.args.keys.now.paths K → place_of K w ≡ c.args.place → above K w ≡ true = λ K w a b. sym (c.is_above.ensures c.args.keys.now.text.now K w a b) ∙ c.if-not-is_above.false in
    let way : Way c.args.archive.now.src.now c.args.archive.now.tape.now c.loop-p.p c.args.hi c.args.version.now.src.now c.args.version.now.tape.now c.loop-p.q c.args.vhi c.args.n c.requires.0.key_list c.requires.0.path c.requires.0.times (add_in c.requires.0.key_list c.args.n c.requires.0.path c.requires.0.times c.requires.0.forest c.requires.0.other) c.requires.0.forest c.args.out.now c.args.at c.loop-p.to c.loop-p.out c.loop-p.fresh = let h = c.requires.0 in c.loop-p.invariant.5 h.key_list h.path h.times h.forest h.other h.held (above-is h.key_list h.path h.held.tabled h.held.place_is) in
    let g = front way.tape c.loop-p-test.true in
    omega (arith, c.loop-p.invariant.2, c.requires.4, g.forward, g.inside, c.write_old-to.ensures.1)

pub write_added-view-v-requires : goal.write_added-view-v-requires
write_added-view-v-requires t c =
    let above-is : (K : KeyList) (w : Path) → Table c.args.keys.now.text.now c.args.keys.now.table.now c.args.keys.now.paths K → place_of K w ≡ c.args.place → above K w ≡ true = λ K w a b. sym (c.is_above.ensures c.args.keys.now.text.now K w a b) ∙ c.if-not-is_above.false in
    let way : Way c.args.archive.now.src.now c.args.archive.now.tape.now c.loop-p.p c.args.hi c.args.version.now.src.now c.args.version.now.tape.now c.loop-p.q c.args.vhi c.args.n c.requires.0.key_list c.requires.0.path c.requires.0.times (add_in c.requires.0.key_list c.args.n c.requires.0.path c.requires.0.times c.requires.0.forest c.requires.0.other) c.requires.0.forest c.args.out.now c.args.at c.loop-p.to c.loop-p.out c.loop-p.fresh = let h = c.requires.0 in c.loop-p.invariant.5 h.key_list h.path h.times h.forest h.other h.held (above-is h.key_list h.path h.held.tabled h.held.place_is) in
    (front way.tape c.loop-p-test.true).held

pub write_added-loop-p-smaller-in-Less : goal.write_added-loop-p-smaller-in-Less
write_added-loop-p-smaller-in-Less t c =
    let above-is : (K : KeyList) (w : Path) → Table c.args.keys.now.text.now c.args.keys.now.table.now c.args.keys.now.paths K → place_of K w ≡ c.args.place → above K w ≡ true = λ K w a b. sym (c.is_above.ensures c.args.keys.now.text.now K w a b) ∙ c.if-not-is_above.false in
    let way : Way c.args.archive.now.src.now c.args.archive.now.tape.now c.loop-p.p c.args.hi c.args.version.now.src.now c.args.version.now.tape.now c.loop-p.q c.args.vhi c.args.n c.requires.0.key_list c.requires.0.path c.requires.0.times (add_in c.requires.0.key_list c.args.n c.requires.0.path c.requires.0.times c.requires.0.forest c.requires.0.other) c.requires.0.forest c.args.out.now c.args.at c.loop-p.to c.loop-p.out c.loop-p.fresh = let h = c.requires.0 in c.loop-p.invariant.5 h.key_list h.path h.times h.forest h.other h.held (above-is h.key_list h.path h.held.tabled h.held.place_is) in
    let g = front way.tape c.loop-p-test.true in
    rw c.view-v.ensures (omega (arith, g.forward, g.inside))

pub write_added-loop-p-preserved-in-Less : goal.write_added-loop-p-preserved-in-Less
write_added-loop-p-preserved-in-Less t c =
    let above-is : (K : KeyList) (w : Path) → Table c.args.keys.now.text.now c.args.keys.now.table.now c.args.keys.now.paths K → place_of K w ≡ c.args.place → above K w ≡ true = λ K w a b. sym (c.is_above.ensures c.args.keys.now.text.now K w a b) ∙ c.if-not-is_above.false in
    let way : Way c.args.archive.now.src.now c.args.archive.now.tape.now c.loop-p.p c.args.hi c.args.version.now.src.now c.args.version.now.tape.now c.loop-p.q c.args.vhi c.args.n c.requires.0.key_list c.requires.0.path c.requires.0.times (add_in c.requires.0.key_list c.args.n c.requires.0.path c.requires.0.times c.requires.0.forest c.requires.0.other) c.requires.0.forest c.args.out.now c.args.at c.loop-p.to c.loop-p.out c.loop-p.fresh = let h = c.requires.0 in c.loop-p.invariant.5 h.key_list h.path h.times h.forest h.other h.held (above-is h.key_list h.path h.held.tabled h.held.place_is) in
    let e = c.view-v.ensures in
    let l = c.loop-p-test.true in
    let x = way in
    let s = next_of x l in
    let g = front x.tape l in
    let y = c.write_old-to.ensures in
    let m : c.args.n ≤ 999 = omega (arith, c.requires.1) in
    rw e (
      omega (arith, c.loop-p.invariant.0, g.forward),
      c.loop-p.invariant.1,
      omega (arith, c.loop-p.invariant.2, g.forward, g.inside, y.1),
      c.loop-p.invariant.3,
      ap length (lent_back c.loop-p.out c.loop-p.to c.least-from.result c.least-from.ensures (y.0 c.args.n c.requires.0.times s.own s.name s.kids m s.at c.requires.0.held.set)).bytes ∙ length_at _ _ _ ∙ c.loop-p.invariant.4,
      λ K w u f v h a. let z = c.loop-p.invariant.5 K w u f v h a in
          way-old z l (order-at z l (c.own_place-own.ensures K w h.tabled h.place_is) (c.order_of.ensures K w h.tabled) ∙ ap ordering_index c.in-Less.is) (lent_back c.loop-p.out c.loop-p.to c.least-from.result c.least-from.ensures (y.0 c.args.n u (next_of z l).own (next_of z l).name (next_of z l).kids m (next_of z l).at h.set)),
    )

pub write_added-slice_bounds-write_both-count : goal.write_added-slice_bounds-write_both-count
write_added-slice_bounds-write_both-count t c = omega (arith, c.least-from.ensures)

pub write_added-slice_bounds-write_both-start : goal.write_added-slice_bounds-write_both-start
write_added-slice_bounds-write_both-start t c = omega (arith, c.least-from.ensures)

pub write_added-write_both-x-requires : goal.write_added-write_both-x-requires
write_added-write_both-x-requires t c =
    let equal : (K : KeyList) (w : Path) (u : Times) (whole first : Forest) (x : Way c.args.archive.now.src.now c.args.archive.now.tape.now c.loop-p.p c.args.hi c.args.version.now.src.now c.args.version.now.tape.now c.loop-p.q c.args.vhi c.args.n K w u whole first c.args.out.now c.args.at c.loop-p.to c.loop-p.out c.loop-p.fresh) → Table c.args.keys.now.text.now c.args.keys.now.table.now c.args.keys.now.paths K → place_of K w ≡ c.args.place → order_at x c.loop-p-test.true ≡ 1 = λ K w u whole first x a b. let l = c.loop-p-test.true in order-at x l (c.own_place-own.ensures K w a b) (c.order_of.ensures K w a) ∙ ap ordering_index c.in-Equal.is in
    let above-is : (K : KeyList) (w : Path) → Table c.args.keys.now.text.now c.args.keys.now.table.now c.args.keys.now.paths K → place_of K w ≡ c.args.place → above K w ≡ true = λ K w a b. sym (c.is_above.ensures c.args.keys.now.text.now K w a b) ∙ c.if-not-is_above.false in
    let way : Way c.args.archive.now.src.now c.args.archive.now.tape.now c.loop-p.p c.args.hi c.args.version.now.src.now c.args.version.now.tape.now c.loop-p.q c.args.vhi c.args.n c.requires.0.key_list c.requires.0.path c.requires.0.times (add_in c.requires.0.key_list c.args.n c.requires.0.path c.requires.0.times c.requires.0.forest c.requires.0.other) c.requires.0.forest c.args.out.now c.args.at c.loop-p.to c.loop-p.out c.loop-p.fresh = let h = c.requires.0 in c.loop-p.invariant.5 h.key_list h.path h.times h.forest h.other h.held (above-is h.key_list h.path h.held.tabled h.held.place_is) in
    let matched : c.loop-p.q < c.args.vhi = let x = way in let h = c.requires.0.held in let e = equal _ _ _ _ _ x h.tabled h.place_is in there x c.loop-p-test.true (λ z. omega (arith, e, z)) in
    let x = way in
    let l = c.loop-p-test.true in
    let h = c.requires.0.held in
    let u = matched in
    let g = front x.tape l in
    let k = front x.vtape u in (
      omega (arith, c.decreases, c.loop-p.invariant.0, g.forward, g.inside),
      (
        record {
          key_list = c.requires.0.key_list;
          path = c.requires.0.path;
          times = c.requires.0.times;
          own = (next_of x l).own;
          name = (next_of x l).name;
          kids = (next_of x l).kids;
          other = (other_of x u).kids;
          both = both_of x l u (equal _ _ _ _ _ x h.tabled h.place_is) h.tabled (c.own_place-own.ensures c.requires.0.key_list c.requires.0.path h.tabled h.place_is) h.set;
        },
        c.requires.1,
        omega (arith, g.inside, c.requires.2),
        omega (arith, k.inside, c.requires.3),
        omega (arith, c.loop-p.invariant.2, c.requires.4, g.inside, k.inside),
      ),
    )

pub write_added-view-v-requires-in-Equal : goal.write_added-view-v-requires-in-Equal
write_added-view-v-requires-in-Equal t c =
    let above-is : (K : KeyList) (w : Path) → Table c.args.keys.now.text.now c.args.keys.now.table.now c.args.keys.now.paths K → place_of K w ≡ c.args.place → above K w ≡ true = λ K w a b. sym (c.is_above.ensures c.args.keys.now.text.now K w a b) ∙ c.if-not-is_above.false in
    let way : Way c.args.archive.now.src.now c.args.archive.now.tape.now c.loop-p.p c.args.hi c.args.version.now.src.now c.args.version.now.tape.now c.loop-p.q c.args.vhi c.args.n c.requires.0.key_list c.requires.0.path c.requires.0.times (add_in c.requires.0.key_list c.args.n c.requires.0.path c.requires.0.times c.requires.0.forest c.requires.0.other) c.requires.0.forest c.args.out.now c.args.at c.loop-p.to c.loop-p.out c.loop-p.fresh = let h = c.requires.0 in c.loop-p.invariant.5 h.key_list h.path h.times h.forest h.other h.held (above-is h.key_list h.path h.held.tabled h.held.place_is) in
    (front way.tape c.loop-p-test.true).held

pub write_added-view-w-requires-in-Equal : goal.write_added-view-w-requires-in-Equal
write_added-view-w-requires-in-Equal t c =
    let equal : (K : KeyList) (w : Path) (u : Times) (whole first : Forest) (x : Way c.args.archive.now.src.now c.args.archive.now.tape.now c.loop-p.p c.args.hi c.args.version.now.src.now c.args.version.now.tape.now c.loop-p.q c.args.vhi c.args.n K w u whole first c.args.out.now c.args.at c.loop-p.to c.loop-p.out c.loop-p.fresh) → Table c.args.keys.now.text.now c.args.keys.now.table.now c.args.keys.now.paths K → place_of K w ≡ c.args.place → order_at x c.loop-p-test.true ≡ 1 = λ K w u whole first x a b. let l = c.loop-p-test.true in order-at x l (c.own_place-own.ensures K w a b) (c.order_of.ensures K w a) ∙ ap ordering_index c.in-Equal.is in
    let above-is : (K : KeyList) (w : Path) → Table c.args.keys.now.text.now c.args.keys.now.table.now c.args.keys.now.paths K → place_of K w ≡ c.args.place → above K w ≡ true = λ K w a b. sym (c.is_above.ensures c.args.keys.now.text.now K w a b) ∙ c.if-not-is_above.false in
    let way : Way c.args.archive.now.src.now c.args.archive.now.tape.now c.loop-p.p c.args.hi c.args.version.now.src.now c.args.version.now.tape.now c.loop-p.q c.args.vhi c.args.n c.requires.0.key_list c.requires.0.path c.requires.0.times (add_in c.requires.0.key_list c.args.n c.requires.0.path c.requires.0.times c.requires.0.forest c.requires.0.other) c.requires.0.forest c.args.out.now c.args.at c.loop-p.to c.loop-p.out c.loop-p.fresh = let h = c.requires.0 in c.loop-p.invariant.5 h.key_list h.path h.times h.forest h.other h.held (above-is h.key_list h.path h.held.tabled h.held.place_is) in
    let matched : c.loop-p.q < c.args.vhi = let x = way in let h = c.requires.0.held in let e = equal _ _ _ _ _ x h.tabled h.place_is in there x c.loop-p-test.true (λ z. omega (arith, e, z)) in
    (front way.vtape matched).held

pub write_added-overflow_add-to-in-Equal : goal.write_added-overflow_add-to-in-Equal
write_added-overflow_add-to-in-Equal t c =
    let equal : (K : KeyList) (w : Path) (u : Times) (whole first : Forest) (x : Way c.args.archive.now.src.now c.args.archive.now.tape.now c.loop-p.p c.args.hi c.args.version.now.src.now c.args.version.now.tape.now c.loop-p.q c.args.vhi c.args.n K w u whole first c.args.out.now c.args.at c.loop-p.to c.loop-p.out c.loop-p.fresh) → Table c.args.keys.now.text.now c.args.keys.now.table.now c.args.keys.now.paths K → place_of K w ≡ c.args.place → order_at x c.loop-p-test.true ≡ 1 = λ K w u whole first x a b. let l = c.loop-p-test.true in order-at x l (c.own_place-own.ensures K w a b) (c.order_of.ensures K w a) ∙ ap ordering_index c.in-Equal.is in
    let above-is : (K : KeyList) (w : Path) → Table c.args.keys.now.text.now c.args.keys.now.table.now c.args.keys.now.paths K → place_of K w ≡ c.args.place → above K w ≡ true = λ K w a b. sym (c.is_above.ensures c.args.keys.now.text.now K w a b) ∙ c.if-not-is_above.false in
    let way : Way c.args.archive.now.src.now c.args.archive.now.tape.now c.loop-p.p c.args.hi c.args.version.now.src.now c.args.version.now.tape.now c.loop-p.q c.args.vhi c.args.n c.requires.0.key_list c.requires.0.path c.requires.0.times (add_in c.requires.0.key_list c.args.n c.requires.0.path c.requires.0.times c.requires.0.forest c.requires.0.other) c.requires.0.forest c.args.out.now c.args.at c.loop-p.to c.loop-p.out c.loop-p.fresh = let h = c.requires.0 in c.loop-p.invariant.5 h.key_list h.path h.times h.forest h.other h.held (above-is h.key_list h.path h.held.tabled h.held.place_is) in
    let matched : c.loop-p.q < c.args.vhi = let x = way in let h = c.requires.0.held in let e = equal _ _ _ _ _ x h.tabled h.place_is in there x c.loop-p-test.true (λ z. omega (arith, e, z)) in
    let grown : Grew c.loop-p.out c.loop-p.to (both_part c.args.n (next_of (way) c.loop-p-test.true).own (next_of (way) c.loop-p-test.true).name (inside c.requires.0.key_list c.args.n (c.requires.0.path ▸ (next_of (way) c.loop-p-test.true).name) (set_in c.args.n c.requires.0.times (next_of (way) c.loop-p-test.true).own) (next_of (way) c.loop-p-test.true).kids (other_of (way) (matched)).kids)) (sibling (next_of (way) c.loop-p-test.true).own (next_of (way) c.loop-p-test.true).name (next_of (way) c.loop-p-test.true).kids) (next_at c.args.version.now.tape.now c.loop-p.q - c.loop-p.q) (262144 * (next_at c.args.archive.now.tape.now c.loop-p.p - c.loop-p.p + (next_at c.args.version.now.tape.now c.loop-p.q - c.loop-p.q))) (record { at = c.loop-p.to + c.write_both-x.result.at; fresh = c.write_both-x.result.fresh }) (put_mid c.least-from.result (length c.loop-p.out - c.least-from.result) c.loop-p.out c.write_both-x.new.out) = let x = way in let l = c.loop-p-test.true in let i = matched in let h = c.requires.0 in grew-lent c.loop-p.out c.loop-p.to c.least-from.result c.least-from.ensures (c.write_both-x.ensures h.key_list h.path h.times (next_of x l).own (next_of x l).name (next_of x l).kids (other_of x i).kids (both_of x l i (equal _ _ _ _ _ x h.held.tabled h.held.place_is) h.held.tabled (c.own_place-own.ensures h.key_list h.path h.held.tabled h.held.place_is) h.held.set)) in
    let y = grown in
    let g = front way.tape c.loop-p-test.true in
    let k = front way.vtape matched in
    omega (arith, c.loop-p.invariant.2, c.requires.4, y.near, g.inside, k.inside)

pub write_added-overflow_add-fresh-in-Equal : goal.write_added-overflow_add-fresh-in-Equal
write_added-overflow_add-fresh-in-Equal t c =
    let equal : (K : KeyList) (w : Path) (u : Times) (whole first : Forest) (x : Way c.args.archive.now.src.now c.args.archive.now.tape.now c.loop-p.p c.args.hi c.args.version.now.src.now c.args.version.now.tape.now c.loop-p.q c.args.vhi c.args.n K w u whole first c.args.out.now c.args.at c.loop-p.to c.loop-p.out c.loop-p.fresh) → Table c.args.keys.now.text.now c.args.keys.now.table.now c.args.keys.now.paths K → place_of K w ≡ c.args.place → order_at x c.loop-p-test.true ≡ 1 = λ K w u whole first x a b. let l = c.loop-p-test.true in order-at x l (c.own_place-own.ensures K w a b) (c.order_of.ensures K w a) ∙ ap ordering_index c.in-Equal.is in
    let above-is : (K : KeyList) (w : Path) → Table c.args.keys.now.text.now c.args.keys.now.table.now c.args.keys.now.paths K → place_of K w ≡ c.args.place → above K w ≡ true = λ K w a b. sym (c.is_above.ensures c.args.keys.now.text.now K w a b) ∙ c.if-not-is_above.false in
    let way : Way c.args.archive.now.src.now c.args.archive.now.tape.now c.loop-p.p c.args.hi c.args.version.now.src.now c.args.version.now.tape.now c.loop-p.q c.args.vhi c.args.n c.requires.0.key_list c.requires.0.path c.requires.0.times (add_in c.requires.0.key_list c.args.n c.requires.0.path c.requires.0.times c.requires.0.forest c.requires.0.other) c.requires.0.forest c.args.out.now c.args.at c.loop-p.to c.loop-p.out c.loop-p.fresh = let h = c.requires.0 in c.loop-p.invariant.5 h.key_list h.path h.times h.forest h.other h.held (above-is h.key_list h.path h.held.tabled h.held.place_is) in
    let matched : c.loop-p.q < c.args.vhi = let x = way in let h = c.requires.0.held in let e = equal _ _ _ _ _ x h.tabled h.place_is in there x c.loop-p-test.true (λ z. omega (arith, e, z)) in
    let grown : Grew c.loop-p.out c.loop-p.to (both_part c.args.n (next_of (way) c.loop-p-test.true).own (next_of (way) c.loop-p-test.true).name (inside c.requires.0.key_list c.args.n (c.requires.0.path ▸ (next_of (way) c.loop-p-test.true).name) (set_in c.args.n c.requires.0.times (next_of (way) c.loop-p-test.true).own) (next_of (way) c.loop-p-test.true).kids (other_of (way) (matched)).kids)) (sibling (next_of (way) c.loop-p-test.true).own (next_of (way) c.loop-p-test.true).name (next_of (way) c.loop-p-test.true).kids) (next_at c.args.version.now.tape.now c.loop-p.q - c.loop-p.q) (262144 * (next_at c.args.archive.now.tape.now c.loop-p.p - c.loop-p.p + (next_at c.args.version.now.tape.now c.loop-p.q - c.loop-p.q))) (record { at = c.loop-p.to + c.write_both-x.result.at; fresh = c.write_both-x.result.fresh }) (put_mid c.least-from.result (length c.loop-p.out - c.least-from.result) c.loop-p.out c.write_both-x.new.out) = let x = way in let l = c.loop-p-test.true in let i = matched in let h = c.requires.0 in grew-lent c.loop-p.out c.loop-p.to c.least-from.result c.least-from.ensures (c.write_both-x.ensures h.key_list h.path h.times (next_of x l).own (next_of x l).name (next_of x l).kids (other_of x i).kids (both_of x l i (equal _ _ _ _ _ x h.held.tabled h.held.place_is) h.held.tabled (c.own_place-own.ensures h.key_list h.path h.held.tabled h.held.place_is) h.held.set)) in
    let y = grown in
    let k = front way.vtape matched in
    omega (arith, y.few, c.loop-p.invariant.3, k.inside, c.requires.3)

pub write_added-loop-p-smaller : goal.write_added-loop-p-smaller
write_added-loop-p-smaller t c =
    let equal : (K : KeyList) (w : Path) (u : Times) (whole first : Forest) (x : Way c.args.archive.now.src.now c.args.archive.now.tape.now c.loop-p.p c.args.hi c.args.version.now.src.now c.args.version.now.tape.now c.loop-p.q c.args.vhi c.args.n K w u whole first c.args.out.now c.args.at c.loop-p.to c.loop-p.out c.loop-p.fresh) → Table c.args.keys.now.text.now c.args.keys.now.table.now c.args.keys.now.paths K → place_of K w ≡ c.args.place → order_at x c.loop-p-test.true ≡ 1 = λ K w u whole first x a b. let l = c.loop-p-test.true in order-at x l (c.own_place-own.ensures K w a b) (c.order_of.ensures K w a) ∙ ap ordering_index c.in-Equal.is in
    let above-is : (K : KeyList) (w : Path) → Table c.args.keys.now.text.now c.args.keys.now.table.now c.args.keys.now.paths K → place_of K w ≡ c.args.place → above K w ≡ true = λ K w a b. sym (c.is_above.ensures c.args.keys.now.text.now K w a b) ∙ c.if-not-is_above.false in
    let way : Way c.args.archive.now.src.now c.args.archive.now.tape.now c.loop-p.p c.args.hi c.args.version.now.src.now c.args.version.now.tape.now c.loop-p.q c.args.vhi c.args.n c.requires.0.key_list c.requires.0.path c.requires.0.times (add_in c.requires.0.key_list c.args.n c.requires.0.path c.requires.0.times c.requires.0.forest c.requires.0.other) c.requires.0.forest c.args.out.now c.args.at c.loop-p.to c.loop-p.out c.loop-p.fresh = let h = c.requires.0 in c.loop-p.invariant.5 h.key_list h.path h.times h.forest h.other h.held (above-is h.key_list h.path h.held.tabled h.held.place_is) in
    let matched : c.loop-p.q < c.args.vhi = let x = way in let h = c.requires.0.held in let e = equal _ _ _ _ _ x h.tabled h.place_is in there x c.loop-p-test.true (λ z. omega (arith, e, z)) in
    let g = front way.tape c.loop-p-test.true in
    let k = front way.vtape matched in
    rw (c.view-v-in-Equal.ensures, c.view-w-in-Equal.ensures) (omega (arith, g.forward, g.inside, k.forward, k.inside))

pub write_added-loop-p-preserved : goal.write_added-loop-p-preserved
write_added-loop-p-preserved t c =
    let equal : (K : KeyList) (w : Path) (u : Times) (whole first : Forest) (x : Way c.args.archive.now.src.now c.args.archive.now.tape.now c.loop-p.p c.args.hi c.args.version.now.src.now c.args.version.now.tape.now c.loop-p.q c.args.vhi c.args.n K w u whole first c.args.out.now c.args.at c.loop-p.to c.loop-p.out c.loop-p.fresh) → Table c.args.keys.now.text.now c.args.keys.now.table.now c.args.keys.now.paths K → place_of K w ≡ c.args.place → order_at x c.loop-p-test.true ≡ 1 = λ K w u whole first x a b. let l = c.loop-p-test.true in order-at x l (c.own_place-own.ensures K w a b) (c.order_of.ensures K w a) ∙ ap ordering_index c.in-Equal.is in
    let above-is : (K : KeyList) (w : Path) → Table c.args.keys.now.text.now c.args.keys.now.table.now c.args.keys.now.paths K → place_of K w ≡ c.args.place → above K w ≡ true = λ K w a b. sym (c.is_above.ensures c.args.keys.now.text.now K w a b) ∙ c.if-not-is_above.false in
    let way : Way c.args.archive.now.src.now c.args.archive.now.tape.now c.loop-p.p c.args.hi c.args.version.now.src.now c.args.version.now.tape.now c.loop-p.q c.args.vhi c.args.n c.requires.0.key_list c.requires.0.path c.requires.0.times (add_in c.requires.0.key_list c.args.n c.requires.0.path c.requires.0.times c.requires.0.forest c.requires.0.other) c.requires.0.forest c.args.out.now c.args.at c.loop-p.to c.loop-p.out c.loop-p.fresh = let h = c.requires.0 in c.loop-p.invariant.5 h.key_list h.path h.times h.forest h.other h.held (above-is h.key_list h.path h.held.tabled h.held.place_is) in
    let matched : c.loop-p.q < c.args.vhi = let x = way in let h = c.requires.0.held in let e = equal _ _ _ _ _ x h.tabled h.place_is in there x c.loop-p-test.true (λ z. omega (arith, e, z)) in
    let grown : Grew c.loop-p.out c.loop-p.to (both_part c.args.n (next_of (way) c.loop-p-test.true).own (next_of (way) c.loop-p-test.true).name (inside c.requires.0.key_list c.args.n (c.requires.0.path ▸ (next_of (way) c.loop-p-test.true).name) (set_in c.args.n c.requires.0.times (next_of (way) c.loop-p-test.true).own) (next_of (way) c.loop-p-test.true).kids (other_of (way) (matched)).kids)) (sibling (next_of (way) c.loop-p-test.true).own (next_of (way) c.loop-p-test.true).name (next_of (way) c.loop-p-test.true).kids) (next_at c.args.version.now.tape.now c.loop-p.q - c.loop-p.q) (262144 * (next_at c.args.archive.now.tape.now c.loop-p.p - c.loop-p.p + (next_at c.args.version.now.tape.now c.loop-p.q - c.loop-p.q))) (record { at = c.loop-p.to + c.write_both-x.result.at; fresh = c.write_both-x.result.fresh }) (put_mid c.least-from.result (length c.loop-p.out - c.least-from.result) c.loop-p.out c.write_both-x.new.out) = let x = way in let l = c.loop-p-test.true in let i = matched in let h = c.requires.0 in grew-lent c.loop-p.out c.loop-p.to c.least-from.result c.least-from.ensures (c.write_both-x.ensures h.key_list h.path h.times (next_of x l).own (next_of x l).name (next_of x l).kids (other_of x i).kids (both_of x l i (equal _ _ _ _ _ x h.held.tabled h.held.place_is) h.held.tabled (c.own_place-own.ensures h.key_list h.path h.held.tabled h.held.place_is) h.held.set)) in
    let e = c.view-v-in-Equal.ensures in
    let d = c.view-w-in-Equal.ensures in
    let l = c.loop-p-test.true in
    let i = matched in
    let y = grown in
    let g = front way.tape l in
    let k = front way.vtape i in
    rw (e, d) (
      omega (arith, c.loop-p.invariant.0, g.forward),
      omega (arith, c.loop-p.invariant.1, k.forward),
      room-more c.loop-p.to c.loop-p.invariant.2 y.near (omega (arith, g.forward)) g.inside (omega (arith, k.forward)) k.inside,
      omega (arith, c.loop-p.invariant.3, k.forward, k.inside, y.few),
      ap length y.wrote.bytes ∙ length_at _ _ _ ∙ c.loop-p.invariant.4,
      λ K w u f v h a. let z = c.loop-p.invariant.5 K w u f v h a in
          let s = equal _ _ _ _ _ z h.tabled h.place_is in
          way-both z l i s (grew-lent c.loop-p.out c.loop-p.to c.least-from.result c.least-from.ensures (c.write_both-x.ensures K w u (next_of z l).own (next_of z l).name (next_of z l).kids (other_of z i).kids (both_of z l i s h.tabled (c.own_place-own.ensures K w h.tabled h.place_is) h.set))),
    )

pub write_added-write_new-last-requires : goal.write_added-write_new-last-requires
write_added-write_new-last-requires t c =
    let above-is : (K : KeyList) (w : Path) → Table c.args.keys.now.text.now c.args.keys.now.table.now c.args.keys.now.paths K → place_of K w ≡ c.args.place → above K w ≡ true = λ K w a b. sym (c.is_above.ensures c.args.keys.now.text.now K w a b) ∙ c.if-not-is_above.false in
    let way : Way c.args.archive.now.src.now c.args.archive.now.tape.now c.loop-p.p c.args.hi c.args.version.now.src.now c.args.version.now.tape.now c.loop-p.q c.args.vhi c.args.n c.requires.0.key_list c.requires.0.path c.requires.0.times (add_in c.requires.0.key_list c.args.n c.requires.0.path c.requires.0.times c.requires.0.forest c.requires.0.other) c.requires.0.forest c.args.out.now c.args.at c.loop-p.to c.loop-p.out c.loop-p.fresh = let h = c.requires.0 in c.loop-p.invariant.5 h.key_list h.path h.times h.forest h.other h.held (above-is h.key_list h.path h.held.tabled h.held.place_is) in
    let x = way in
    (c.requires.1, record { forest = x.other; tape = x.vtape }, c.requires.3, omega (arith, c.loop-p.invariant.2, c.requires.4))

pub write_added-overflow_sub-result : goal.write_added-overflow_sub-result
write_added-overflow_sub-result t c =
    let above-is : (K : KeyList) (w : Path) → Table c.args.keys.now.text.now c.args.keys.now.table.now c.args.keys.now.paths K → place_of K w ≡ c.args.place → above K w ≡ true = λ K w a b. sym (c.is_above.ensures c.args.keys.now.text.now K w a b) ∙ c.if-not-is_above.false in
    let way : Way c.args.archive.now.src.now c.args.archive.now.tape.now c.loop-p.p c.args.hi c.args.version.now.src.now c.args.version.now.tape.now c.loop-p.q c.args.vhi c.args.n c.requires.0.key_list c.requires.0.path c.requires.0.times (add_in c.requires.0.key_list c.args.n c.requires.0.path c.requires.0.times c.requires.0.forest c.requires.0.other) c.requires.0.forest c.args.out.now c.args.at c.loop-p.to c.loop-p.out c.loop-p.fresh = let h = c.requires.0 in c.loop-p.invariant.5 h.key_list h.path h.times h.forest h.other h.held (above-is h.key_list h.path h.held.tabled h.held.place_is) in
    tape-le way.vtape

pub write_added-overflow_add-result : goal.write_added-overflow_add-result
write_added-overflow_add-result t c = omega (arith, c.loop-p.invariant.3, c.requires.3)

pub write_added-shape_of-out : goal.write_added-shape_of-out
write_added-shape_of-out t c =
    let above-is : (K : KeyList) (w : Path) → Table c.args.keys.now.text.now c.args.keys.now.table.now c.args.keys.now.paths K → place_of K w ≡ c.args.place → above K w ≡ true = λ K w a b. sym (c.is_above.ensures c.args.keys.now.text.now K w a b) ∙ c.if-not-is_above.false in
    let way : Way c.args.archive.now.src.now c.args.archive.now.tape.now c.loop-p.p c.args.hi c.args.version.now.src.now c.args.version.now.tape.now c.loop-p.q c.args.vhi c.args.n c.requires.0.key_list c.requires.0.path c.requires.0.times (add_in c.requires.0.key_list c.args.n c.requires.0.path c.requires.0.times c.requires.0.forest c.requires.0.other) c.requires.0.forest c.args.out.now c.args.at c.loop-p.to c.loop-p.out c.loop-p.fresh = let h = c.requires.0 in c.loop-p.invariant.5 h.key_list h.path h.times h.forest h.other h.held (above-is h.key_list h.path h.held.tabled h.held.place_is) in
    let x = way in
    ap length (c.write_new-last.ensures.0 c.requires.0.key_list c.requires.0.path x.other x.vtape x.version).bytes ∙ length_at _ _ _ ∙ c.loop-p.invariant.4

pub write_added-returns : goal.write_added-returns
write_added-returns t c K w u f v g =
    let above-is : (K : KeyList) (w : Path) → Table c.args.keys.now.text.now c.args.keys.now.table.now c.args.keys.now.paths K → place_of K w ≡ c.args.place → above K w ≡ true = λ K w a b. sym (c.is_above.ensures c.args.keys.now.text.now K w a b) ∙ c.if-not-is_above.false in
    let a = above-is K w g.tabled g.place_is in
    let x = c.loop-p.invariant.5 K w u f v g a in
    let y = way-done x c.loop-p-test.false (c.write_new-last.ensures.0 K w x.other x.vtape x.version) in
    rw (inside-above K c.args.n w u f v a) (record { wrote = y.0; count = y.1; few = c.loop-p.invariant.3; near = omega (arith, c.loop-p.invariant.2, c.write_new-last.ensures.1, tape-le x.tape) })

pub write_both-element_at-e-requires : goal.write_both-element_at-e-requires
write_both-element_at-e-requires t c = (at_front c.requires.0.own c.requires.0.both.at).held

pub write_both-set_of-set-requires : goal.write_both-set_of-set-requires
write_both-set_of-set-requires t c = let g = at_front c.requires.0.own c.requires.0.both.at in (g.held, g.within)

pub write_both-view-v-requires : goal.write_both-view-v-requires
write_both-view-v-requires t c =
    let spot : (o : Option Bytes) (m : Bytes) (k : Forest) → At c.args.archive.now.src.now c.args.archive.now.tape.now c.args.p o m k → c.element_at-e.result ≡ place_in o c.args.p = λ o m k a. c.element_at-e.ensures ∙ at_place a in
    rw (spot _ _ _ c.requires.0.both.at) c.requires.0.both.at.node.held

pub write_both-view-w-requires : goal.write_both-view-w-requires
write_both-view-w-requires t c = c.requires.0.both.vnode.held

pub write_both-open_set-tag-requires : goal.write_both-open_set-tag-requires
write_both-open_set-tag-requires t c = let b = c.requires.0 in
    let y = c.set_of-set.ensures c.args.n b.times b.own b.name b.kids (omega (arith, c.requires.1)) b.both.at b.both.own-set b.both.set in
    ((at_front b.own b.both.at).held, y.ordered, y.within, y.short, says-set y, c.requires.1, omega (arith, c.requires.4))

pub write_both-slice_bounds-put_open-end : goal.write_both-slice_bounds-put_open-end
write_both-slice_bounds-put_open-end t c =
    let spot : (o : Option Bytes) (m : Bytes) (k : Forest) → At c.args.archive.now.src.now c.args.archive.now.tape.now c.args.p o m k → c.element_at-e.result ≡ place_in o c.args.p = λ o m k a. c.element_at-e.ensures ∙ at_place a in
    let h = c.requires.0.both in
    rw (c.view-v.ensures, spot _ _ _ h.at) h.at.node.within

pub write_both-put_open-inside-requires : goal.write_both-put_open-inside-requires
write_both-put_open-inside-requires t c =
    let spot : (o : Option Bytes) (m : Bytes) (k : Forest) → At c.args.archive.now.src.now c.args.archive.now.tape.now c.args.p o m k → c.element_at-e.result ≡ place_in o c.args.p = λ o m k a. c.element_at-e.ensures ∙ at_place a in
    let h = c.requires.0.both in
    rw (c.view-v.ensures, spot _ _ _ h.at) (omega (arith, length-take {A = ℕ}, h.at.node.within), omega (arith, c.requires.4, c.open_set-tag.ensures.1))

pub write_both-overflow_add-e : goal.write_both-overflow_add-e
write_both-overflow_add-e t c =
    let spot : (o : Option Bytes) (m : Bytes) (k : Forest) → At c.args.archive.now.src.now c.args.archive.now.tape.now c.args.p o m k → c.element_at-e.result ≡ place_in o c.args.p = λ o m k a. c.element_at-e.ensures ∙ at_place a in
    let h = c.requires.0.both in
    rw (spot _ _ _ h.at) (omega (arith, (at_forward c.requires.0.own h.at).1, c.requires.2))

pub write_both-overflow_add-q : goal.write_both-overflow_add-q
write_both-overflow_add-q t c = omega (arith, tape-le c.requires.0.both.vinner, c.requires.3)

pub write_both-write_added-x-requires : goal.write_both-write_added-x-requires
write_both-write_added-x-requires t c =
    let spot : (o : Option Bytes) (m : Bytes) (k : Forest) → At c.args.archive.now.src.now c.args.archive.now.tape.now c.args.p o m k → c.element_at-e.result ≡ place_in o c.args.p = λ o m k a. c.element_at-e.ensures ∙ at_place a in
    let inner : (K : KeyList) (w : Path) (u : Times) (o : Option Bytes) (m : Bytes) (k f : Forest) → Both c.args.keys.now.text.now c.args.keys.now.table.now c.args.keys.now.paths c.args.own c.args.archive.now.src.now c.args.archive.now.tape.now c.args.p c.args.version.now.src.now c.args.version.now.tape.now c.args.q c.args.n c.args.around.start c.args.around.end K w u o m k f → Held c.args.keys.now.text.now c.args.keys.now.table.now c.args.keys.now.paths c.args.own c.args.archive.now.src.now c.args.archive.now.tape.now (c.element_at-e.result + 1) (next_at c.args.archive.now.tape.now c.element_at-e.result) c.args.version.now.src.now c.args.version.now.tape.now (c.args.q + 1) (next_at c.args.version.now.tape.now c.args.q) c.args.n c.set_of-set.result.start c.set_of-set.result.end K (w ▸ m) (set_in c.args.n u o) k f = λ K w u o m k f b. let s = spot _ _ _ b.at in rw s (inner-held b (c.set_of-set.ensures c.args.n u o m k (omega (arith, c.requires.1)) b.at b.own-set b.set)) in
    let near-open : c.put_open-inside.result ≤ 0 + 35777 = let h = c.requires.0.both in omega (arith, (rw (c.view-v.ensures, spot _ _ _ h.at, h.at.node.bytes-are) at (simp between_is at c.put_open-inside.ensures)).place, opening-short h.at.node, c.open_set-tag.ensures.1) in
    let b = c.requires.0 in
    let h = b.both in
    let s = spot _ _ _ h.at in
    let f = at_forward b.own h.at in
    let n = h.at.ends in
    let v = tape-le h.vinner in
    let j = near-open in
    rw (c.view-v.ensures, c.view-w.ensures) (
      rw s (omega (arith, c.decreases, f.0, f.1, n)),
      (
        record { key_list = b.key_list; path = b.path ▸ b.name; times = set_in c.args.n b.times b.own; forest = b.kids; other = b.other; held = inner _ _ _ _ _ _ _ h },
        c.requires.1,
        rw s (omega (arith, n, c.requires.2)),
        c.requires.3,
        rw s (room-inner 0 c.args.q f.0 f.1 n v j (omega (arith, c.requires.4))),
      ),
    )

pub write_both-slice_bounds-put_close-end : goal.write_both-slice_bounds-put_close-end
write_both-slice_bounds-put_close-end t c =
    let spot : (o : Option Bytes) (m : Bytes) (k : Forest) → At c.args.archive.now.src.now c.args.archive.now.tape.now c.args.p o m k → c.element_at-e.result ≡ place_in o c.args.p = λ o m k a. c.element_at-e.ensures ∙ at_place a in
    let h = c.requires.0.both in
    rw (c.view-v.ensures, spot _ _ _ h.at) h.at.node.within

pub write_both-put_close-close-requires : goal.write_both-put_close-close-requires
write_both-put_close-close-requires t c =
    let spot : (o : Option Bytes) (m : Bytes) (k : Forest) → At c.args.archive.now.src.now c.args.archive.now.tape.now c.args.p o m k → c.element_at-e.result ≡ place_in o c.args.p = λ o m k a. c.element_at-e.ensures ∙ at_place a in
    let inner : (K : KeyList) (w : Path) (u : Times) (o : Option Bytes) (m : Bytes) (k f : Forest) → Both c.args.keys.now.text.now c.args.keys.now.table.now c.args.keys.now.paths c.args.own c.args.archive.now.src.now c.args.archive.now.tape.now c.args.p c.args.version.now.src.now c.args.version.now.tape.now c.args.q c.args.n c.args.around.start c.args.around.end K w u o m k f → Held c.args.keys.now.text.now c.args.keys.now.table.now c.args.keys.now.paths c.args.own c.args.archive.now.src.now c.args.archive.now.tape.now (c.element_at-e.result + 1) (next_at c.args.archive.now.tape.now c.element_at-e.result) c.args.version.now.src.now c.args.version.now.tape.now (c.args.q + 1) (next_at c.args.version.now.tape.now c.args.q) c.args.n c.set_of-set.result.start c.set_of-set.result.end K (w ▸ m) (set_in c.args.n u o) k f = λ K w u o m k f b. let s = spot _ _ _ b.at in rw s (inner-held b (c.set_of-set.ensures c.args.n u o m k (omega (arith, c.requires.1)) b.at b.own-set b.set)) in
    let near-open : c.put_open-inside.result ≤ 0 + 35777 = let h = c.requires.0.both in omega (arith, (rw (c.view-v.ensures, spot _ _ _ h.at, h.at.node.bytes-are) at (simp between_is at c.put_open-inside.ensures)).place, opening-short h.at.node, c.open_set-tag.ensures.1) in
    let filled : c.write_added-x.result.at + 400000 ≤ 0 + 262144 * (next_at c.args.archive.now.tape.now c.args.p - c.args.p + (next_at c.args.version.now.tape.now c.args.q - c.args.q)) = let b = c.requires.0 in let h = b.both in let f = at_forward b.own h.at in let x = ((rw (c.view-v.ensures, c.view-w.ensures) at c.write_added-x.ensures) b.key_list (b.path ▸ b.name) (set_in c.args.n b.times b.own) b.kids b.other (inner _ _ _ _ _ _ _ h)).near in room-outer 0 c.args.q f.0 f.1 h.at.ends (tape-le h.vinner) (near-open) (rw (spot _ _ _ h.at) at x) in
    let h = c.requires.0.both in
    rw (c.view-v.ensures, spot _ _ _ h.at) (omega (arith, length-take {A = ℕ}, h.at.node.within), omega (arith, c.requires.4, filled))

pub write_both-close_set-last-requires : goal.write_both-close_set-last-requires
write_both-close_set-last-requires t c =
    let spot : (o : Option Bytes) (m : Bytes) (k : Forest) → At c.args.archive.now.src.now c.args.archive.now.tape.now c.args.p o m k → c.element_at-e.result ≡ place_in o c.args.p = λ o m k a. c.element_at-e.ensures ∙ at_place a in
    let inner : (K : KeyList) (w : Path) (u : Times) (o : Option Bytes) (m : Bytes) (k f : Forest) → Both c.args.keys.now.text.now c.args.keys.now.table.now c.args.keys.now.paths c.args.own c.args.archive.now.src.now c.args.archive.now.tape.now c.args.p c.args.version.now.src.now c.args.version.now.tape.now c.args.q c.args.n c.args.around.start c.args.around.end K w u o m k f → Held c.args.keys.now.text.now c.args.keys.now.table.now c.args.keys.now.paths c.args.own c.args.archive.now.src.now c.args.archive.now.tape.now (c.element_at-e.result + 1) (next_at c.args.archive.now.tape.now c.element_at-e.result) c.args.version.now.src.now c.args.version.now.tape.now (c.args.q + 1) (next_at c.args.version.now.tape.now c.args.q) c.args.n c.set_of-set.result.start c.set_of-set.result.end K (w ▸ m) (set_in c.args.n u o) k f = λ K w u o m k f b. let s = spot _ _ _ b.at in rw s (inner-held b (c.set_of-set.ensures c.args.n u o m k (omega (arith, c.requires.1)) b.at b.own-set b.set)) in
    let near-open : c.put_open-inside.result ≤ 0 + 35777 = let h = c.requires.0.both in omega (arith, (rw (c.view-v.ensures, spot _ _ _ h.at, h.at.node.bytes-are) at (simp between_is at c.put_open-inside.ensures)).place, opening-short h.at.node, c.open_set-tag.ensures.1) in
    let filled : c.write_added-x.result.at + 400000 ≤ 0 + 262144 * (next_at c.args.archive.now.tape.now c.args.p - c.args.p + (next_at c.args.version.now.tape.now c.args.q - c.args.q)) = let b = c.requires.0 in let h = b.both in let f = at_forward b.own h.at in let x = ((rw (c.view-v.ensures, c.view-w.ensures) at c.write_added-x.ensures) b.key_list (b.path ▸ b.name) (set_in c.args.n b.times b.own) b.kids b.other (inner _ _ _ _ _ _ _ h)).near in room-outer 0 c.args.q f.0 f.1 h.at.ends (tape-le h.vinner) (near-open) (rw (spot _ _ _ h.at) at x) in
    let near-close : c.put_close-close.result + 300000 ≤ 0 + 262144 * (next_at c.args.archive.now.tape.now c.args.p - c.args.p + (next_at c.args.version.now.tape.now c.args.q - c.args.q)) = let h = c.requires.0.both in omega (arith, (rw (c.view-v.ensures, spot _ _ _ h.at, h.at.node.bytes-are) at (simp between_is at c.put_close-close.ensures)).place, closing-short h.at.node, filled) in
    ((at_front c.requires.0.own c.requires.0.both.at).held, omega (arith, c.requires.4, near-close))

pub write_both-returns : goal.write_both-returns
write_both-returns t c K w u o m k f b =
    let spot : (o : Option Bytes) (m : Bytes) (k : Forest) → At c.args.archive.now.src.now c.args.archive.now.tape.now c.args.p o m k → c.element_at-e.result ≡ place_in o c.args.p = λ o m k a. c.element_at-e.ensures ∙ at_place a in
    let inner : (K : KeyList) (w : Path) (u : Times) (o : Option Bytes) (m : Bytes) (k f : Forest) → Both c.args.keys.now.text.now c.args.keys.now.table.now c.args.keys.now.paths c.args.own c.args.archive.now.src.now c.args.archive.now.tape.now c.args.p c.args.version.now.src.now c.args.version.now.tape.now c.args.q c.args.n c.args.around.start c.args.around.end K w u o m k f → Held c.args.keys.now.text.now c.args.keys.now.table.now c.args.keys.now.paths c.args.own c.args.archive.now.src.now c.args.archive.now.tape.now (c.element_at-e.result + 1) (next_at c.args.archive.now.tape.now c.element_at-e.result) c.args.version.now.src.now c.args.version.now.tape.now (c.args.q + 1) (next_at c.args.version.now.tape.now c.args.q) c.args.n c.set_of-set.result.start c.set_of-set.result.end K (w ▸ m) (set_in c.args.n u o) k f = λ K w u o m k f b. let s = spot _ _ _ b.at in rw s (inner-held b (c.set_of-set.ensures c.args.n u o m k (omega (arith, c.requires.1)) b.at b.own-set b.set)) in
    let near-open : c.put_open-inside.result ≤ 0 + 35777 = let h = c.requires.0.both in omega (arith, (rw (c.view-v.ensures, spot _ _ _ h.at, h.at.node.bytes-are) at (simp between_is at c.put_open-inside.ensures)).place, opening-short h.at.node, c.open_set-tag.ensures.1) in
    let filled : c.write_added-x.result.at + 400000 ≤ 0 + 262144 * (next_at c.args.archive.now.tape.now c.args.p - c.args.p + (next_at c.args.version.now.tape.now c.args.q - c.args.q)) = let b = c.requires.0 in let h = b.both in let f = at_forward b.own h.at in let x = ((rw (c.view-v.ensures, c.view-w.ensures) at c.write_added-x.ensures) b.key_list (b.path ▸ b.name) (set_in c.args.n b.times b.own) b.kids b.other (inner _ _ _ _ _ _ _ h)).near in room-outer 0 c.args.q f.0 f.1 h.at.ends (tape-le h.vinner) (near-open) (rw (spot _ _ _ h.at) at x) in
    let near-close : c.put_close-close.result + 300000 ≤ 0 + 262144 * (next_at c.args.archive.now.tape.now c.args.p - c.args.p + (next_at c.args.version.now.tape.now c.args.q - c.args.q)) = let h = c.requires.0.both in omega (arith, (rw (c.view-v.ensures, spot _ _ _ h.at, h.at.node.bytes-are) at (simp between_is at c.put_close-close.ensures)).place, closing-short h.at.node, filled) in
    let s = spot _ _ _ b.at in
    let e = c.view-v.ensures in
    both-grew c.args.n u o m
    (c.open_set-tag.ensures.0 o m k (set_in c.args.n u o) b.at (c.set_of-set.ensures c.args.n u o m k (omega (arith, c.requires.1)) b.at b.own-set b.set))
    (rw (e, s, b.at.node.bytes-are) at (simp between_is at c.put_open-inside.ensures))
    ((rw (e, c.view-w.ensures) at c.write_added-x.ensures) K (w ▸ m) (set_in c.args.n u o) k f (inner _ _ _ _ _ _ _ b))
    (rw (e, s, b.at.node.bytes-are) at (simp between_is at c.put_close-close.ensures))
    (c.close_set-last.ensures.0 c.args.archive.now.src.now o m k b.at)
    (omega arith) (omega (arith, c.close_set-last.ensures.1, near-close))
