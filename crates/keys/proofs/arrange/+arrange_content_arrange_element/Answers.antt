-- `arrange_element` and `arrange_content` meet their contracts: an element is built around what it holds, siblings one by one in the order of the entries.
use native.Mathlib.Omega.{arith}
use mathlib.Core.Path.{◌≡◌, refl, sym, ◌∙◌}
use mathlib.Core.Bool.{true, false}
use lib.ListN.{length, length-set}
use Rattle.xml.specs.Bytes.{Bytes}
use Rattle.xml.specs.Tape.{Node}
use Rattle.xml.specs.TapeLaws.{tape-le}
use Rattle.keys.specs.KeyList.{above}
use Rattle.keys.specs.Version.{◌▸◌}
use Rattle.keys.specs.Table.{place_of}
use Rattle.keys.specs.Placed.{OfPlace}
use Rattle.keys.specs.Entries.{Sorted}
use Rattle.keys.specs.Building.{turn, turn-fit, progress-twice, progress-more, progress-done, fit-checked, fit-few-tags, fit-twice, progress_start}
use Rattle.keys.specs.BuildingLaws.{fit-kids, element-twice, element-arranged, element-end, element-size, fit-linked, fit-few, content-copied}
use Prim.Native.Nat.{◌+◌, ◌<◌, ◌≤◌}
use Rattle.keys.proofs.arrange.+arrange_content_arrange_element.Goals as goal

pub arrange_content-is_above-requires : goal.arrange_content-is_above-requires
arrange_content-is_above-requires t c = c.requires.0.tabled.held

pub arrange_content-copy-requires : goal.arrange_content-copy-requires
arrange_content-copy-requires t c =
    let low : OfPlace c.args.keys.now.text.now c.args.keys.now.table.now c.args.keys.now.paths c.args.place (λ K o. above K o ≡ false) = λ K o u e. sym (c.is_above.ensures c.args.keys.now.text.now K o u e) ∙ c.if-not-is_above.true in
    let few : c.args.m + c.args.hi ≤ 512 + c.args.lo = let g = c.requires.0 in fit-few g (low g.key_list g.path g.tabled g.place_is) in
    (fit-linked c.requires.0, few, c.requires.1)

pub arrange_content-shape_of-out-then-not-is_above : goal.arrange_content-shape_of-out-then-not-is_above
arrange_content-shape_of-out-then-not-is_above t c = c.copy.ensures.size

pub arrange_content-returns-then-not-is_above : goal.arrange_content-returns-then-not-is_above
arrange_content-returns-then-not-is_above t c =
    let low : OfPlace c.args.keys.now.text.now c.args.keys.now.table.now c.args.keys.now.paths c.args.place (λ K o. above K o ≡ false) = λ K o u e. sym (c.is_above.ensures c.args.keys.now.text.now K o u e) ∙ c.if-not-is_above.true in
    let few : c.args.m + c.args.hi ≤ 512 + c.args.lo = let g = c.requires.0 in fit-few g (low g.key_list g.path g.tabled g.place_is) in
    content-copied c.requires.0 c.args.out.now low c.copy.ensures few c.requires.1

pub arrange_content-order_in-requires : goal.arrange_content-order_in-requires
arrange_content-order_in-requires t c = (fit-checked c.requires.0, fit-few-tags c.requires.0, refl, c.requires.2)

pub arrange_content-returns-in_err-k : goal.arrange_content-returns-in_err-k
arrange_content-returns-in_err-k t c =
    let high : above c.requires.0.key_list c.requires.0.path ≡ true = let g = c.requires.0 in sym (c.is_above.ensures c.args.keys.now.text.now g.key_list g.path g.tabled g.place_is) ∙ c.if-not-is_above.false in
    let listed : Sorted c.requires.0.key_list c.requires.0.path c.args.doc.now.src.now c.args.doc.now.tape.now c.args.lo c.args.hi c.order_in.new.order c.requires.0.forest c.order_in.result = let g = c.requires.0 in c.order_in.ensures.sorted g.key_list g.path g.tabled g.place_is g.forest g.tape in
    rw c.from_residual.ensures (fit-twice c.requires.0 c.args.out.now c.order_in.new.order c.order_in.result high listed c.in_err-k.was)

pub arrange_content-loop-j-init : goal.arrange_content-loop-j-init
arrange_content-loop-j-init t c =
    let high : above c.requires.0.key_list c.requires.0.path ≡ true = let g = c.requires.0 in sym (c.is_above.ensures c.args.keys.now.text.now g.key_list g.path g.tabled g.place_is) ∙ c.if-not-is_above.false in
    let listed : Sorted c.requires.0.key_list c.requires.0.path c.args.doc.now.src.now c.args.doc.now.tape.now c.args.lo c.args.hi c.order_in.new.order c.requires.0.forest c.order_in.result = let g = c.requires.0 in c.order_in.ensures.sorted g.key_list g.path g.tabled g.place_is g.forest g.tape in
    progress_start c.requires.0 c.args.out.now c.order_in.new.order c.order_in.result high listed _ c.in_ok-k.was

pub arrange_content-offset_bounds-order-j : goal.arrange_content-offset_bounds-order-j
arrange_content-offset_bounds-order-j t c =
    let most : c.in_ok-k.k ≤ 512 = c.order_in.ensures.small _ c.in_ok-k.was in
    let inside : c.loop-j.j < 512 = omega (arith, most, c.loop-j-test.true) in
    omega (arith, inside)

pub arrange_content-bounds-order-j : goal.arrange_content-bounds-order-j
arrange_content-bounds-order-j t c =
    let most : c.in_ok-k.k ≤ 512 = c.order_in.ensures.small _ c.in_ok-k.was in
    let inside : c.loop-j.j < 512 = omega (arith, most, c.loop-j-test.true) in
    omega (arith, inside)

pub arrange_content-overflow_cast-p : goal.arrange_content-overflow_cast-p
arrange_content-overflow_cast-p t c = omega (arith, (turn c.loop-j.invariant c.loop-j-test.true).entry.node.held)

pub arrange_content-arrange_element-requires : goal.arrange_content-arrange_element-requires
arrange_content-arrange_element-requires t c = let y = turn c.loop-j.invariant c.loop-j-test.true in
    (omega (arith, c.decreases, y.entry.low, y.entry.inside, tape-le y.entry.inner), (turn-fit c.loop-j.invariant c.loop-j-test.true, omega (arith, c.loop-j.invariant.long, c.requires.1), omega (arith, y.entry.inside, c.requires.2)))

pub arrange_content-shape_of-out-in_err-to : goal.arrange_content-shape_of-out-in_err-to
arrange_content-shape_of-out-in_err-to t c = c.arrange_element.auto.out ∙ c.loop-j.invariant.long

pub arrange_content-returns-in_err-to : goal.arrange_content-returns-in_err-to
arrange_content-returns-in_err-to t c = rw c.from_residual-in_err-to.ensures (progress-twice c.loop-j.invariant c.loop-j-test.true c.arrange_element.ensures c.in_err-to.was)

pub arrange_content-loop-j-preserved : goal.arrange_content-loop-j-preserved
arrange_content-loop-j-preserved t c = let z = element-size (turn-fit c.loop-j.invariant c.loop-j-test.true) (c.arrange_element.ensures.built _ c.in_ok-to.was) in
    let h = c.arrange_element.auto.out in
    progress-more c.loop-j.invariant c.loop-j-test.true c.arrange_element.ensures c.in_ok-to.was h (omega (arith, z.0, z.1, h, c.loop-j.invariant.long, c.requires.1))

pub arrange_content-shape_of-out : goal.arrange_content-shape_of-out
arrange_content-shape_of-out t c = c.loop-j.invariant.long

pub arrange_content-returns : goal.arrange_content-returns
arrange_content-returns t c = progress-done c.loop-j.invariant c.loop-j-test.false

pub arrange_element-view-v-requires : goal.arrange_element-view-v-requires
arrange_element-view-v-requires t c = c.requires.0.node.held

pub arrange_element-child-own-requires : goal.arrange_element-child-own-requires
arrange_element-child-own-requires t c = record { key_list = c.requires.0.key_list; path = c.requires.0.path; table = c.requires.0.tabled; place_is = c.requires.0.place_is }

pub arrange_element-part-requires : goal.arrange_element-part-requires
arrange_element-part-requires t c = rw c.view-v.ensures (omega arith, c.requires.0.node.within)

pub arrange_element-overflow_mul-out : goal.arrange_element-overflow_mul-out
arrange_element-overflow_mul-out t c = omega (arith, c.requires.0.node.held)

pub arrange_element-offset_bounds-doc-p : goal.arrange_element-offset_bounds-doc-p
arrange_element-offset_bounds-doc-p t c = omega (arith, c.requires.0.node.held)

pub arrange_element-bounds-doc-p : goal.arrange_element-bounds-doc-p
arrange_element-bounds-doc-p t c = omega (arith, c.requires.0.node.held)

pub arrange_element-overflow_mul-out-2 : goal.arrange_element-overflow_mul-out-2
arrange_element-overflow_mul-out-2 t c = omega (arith, c.requires.0.fits)

pub arrange_element-offset_bounds-out-m : goal.arrange_element-offset_bounds-out-m
arrange_element-offset_bounds-out-m t c = omega (arith, c.requires.0.fits)

pub arrange_element-bounds-out-m : goal.arrange_element-bounds-out-m
arrange_element-bounds-out-m t c = omega (arith, c.requires.0.fits, c.requires.1)

pub arrange_element-overflow_add-p : goal.arrange_element-overflow_add-p
arrange_element-overflow_add-p t c = omega (arith, c.requires.0.node.held)

pub arrange_element-overflow_add-m : goal.arrange_element-overflow_add-m
arrange_element-overflow_add-m t c = omega (arith, c.requires.0.fits)

pub arrange_element-arrange_content-requires : goal.arrange_element-arrange_content-requires
arrange_element-arrange_content-requires t c =
    let own : OfPlace c.args.keys.now.text.now c.args.keys.now.table.now c.args.keys.now.paths c.args.place (λ K q. (b : Bytes) → Node c.args.doc.now.src.now c.args.doc.now.tape.now c.args.p 1 b → place_of K (q ▸ b) ≡ c.child-own.result) = λ K q u e b a. sym (rw (c.part.ensures, c.view-v.ensures, a.bytes-are) at (c.child-own.ensures K q u e)) in
    let own-place : place_of c.requires.0.key_list (c.requires.0.path ▸ c.requires.0.name) ≡ c.child-own.result = own c.requires.0.key_list c.requires.0.path c.requires.0.tabled c.requires.0.place_is c.requires.0.name c.requires.0.node in
    rw c.view-v.ensures
    (omega (arith, c.decreases, tape-le c.requires.0.tape), (fit-kids c.requires.0 own-place, simp length-set c.requires.1, c.requires.2))

pub arrange_element-shape_of-out-in_err-end : goal.arrange_element-shape_of-out-in_err-end
arrange_element-shape_of-out-in_err-end t c =
    let mid-length : length c.arrange_content.new.out ≡ length c.args.out.now = c.arrange_content.auto.out ∙ simp length-set in
    mid-length

pub arrange_element-returns-in_err-end : goal.arrange_element-returns-in_err-end
arrange_element-returns-in_err-end t c =
    let own : OfPlace c.args.keys.now.text.now c.args.keys.now.table.now c.args.keys.now.paths c.args.place (λ K q. (b : Bytes) → Node c.args.doc.now.src.now c.args.doc.now.tape.now c.args.p 1 b → place_of K (q ▸ b) ≡ c.child-own.result) = λ K q u e b a. sym (rw (c.part.ensures, c.view-v.ensures, a.bytes-are) at (c.child-own.ensures K q u e)) in
    rw c.from_residual.ensures (element-twice own (rw c.view-v.ensures at c.arrange_content.ensures) c.in_err-end.was)

pub arrange_element-overflow_cast-out : goal.arrange_element-overflow_cast-out
arrange_element-overflow_cast-out t c =
    let own : OfPlace c.args.keys.now.text.now c.args.keys.now.table.now c.args.keys.now.paths c.args.place (λ K q. (b : Bytes) → Node c.args.doc.now.src.now c.args.doc.now.tape.now c.args.p 1 b → place_of K (q ▸ b) ≡ c.child-own.result) = λ K q u e b a. sym (rw (c.part.ensures, c.view-v.ensures, a.bytes-are) at (c.child-own.ensures K q u e)) in
    let own-place : place_of c.requires.0.key_list (c.requires.0.path ▸ c.requires.0.name) ≡ c.child-own.result = own c.requires.0.key_list c.requires.0.path c.requires.0.tabled c.requires.0.place_is c.requires.0.name c.requires.0.node in
    let ends : c.in_ok-end.end ≤ 512 = element-end c.requires.0 (own-place) ((rw c.view-v.ensures at c.arrange_content.ensures).built _ c.in_ok-end.was) in
    omega (arith, ends)

pub arrange_element-overflow_mul-out-3 : goal.arrange_element-overflow_mul-out-3
arrange_element-overflow_mul-out-3 t c = omega (arith, c.requires.0.fits)

pub arrange_element-overflow_add-out : goal.arrange_element-overflow_add-out
arrange_element-overflow_add-out t c = omega (arith, c.requires.0.fits)

pub arrange_element-offset_bounds-out-m-2 : goal.arrange_element-offset_bounds-out-m-2
arrange_element-offset_bounds-out-m-2 t c = omega (arith, c.requires.0.fits)

pub arrange_element-bounds-out-m-2 : goal.arrange_element-bounds-out-m-2
arrange_element-bounds-out-m-2 t c =
    let mid-length : length c.arrange_content.new.out ≡ length c.args.out.now = c.arrange_content.auto.out ∙ simp length-set in
    omega (arith, c.requires.0.fits, c.requires.1, mid-length)

pub arrange_element-shape_of-out : goal.arrange_element-shape_of-out
arrange_element-shape_of-out t c =
    let mid-length : length c.arrange_content.new.out ≡ length c.args.out.now = c.arrange_content.auto.out ∙ simp length-set in
    simp length-set mid-length

pub arrange_element-returns : goal.arrange_element-returns
arrange_element-returns t c =
    let own : OfPlace c.args.keys.now.text.now c.args.keys.now.table.now c.args.keys.now.paths c.args.place (λ K q. (b : Bytes) → Node c.args.doc.now.src.now c.args.doc.now.tape.now c.args.p 1 b → place_of K (q ▸ b) ≡ c.child-own.result) = λ K q u e b a. sym (rw (c.part.ensures, c.view-v.ensures, a.bytes-are) at (c.child-own.ensures K q u e)) in
    let own-place : place_of c.requires.0.key_list (c.requires.0.path ▸ c.requires.0.name) ≡ c.child-own.result = own c.requires.0.key_list c.requires.0.path c.requires.0.tabled c.requires.0.place_is c.requires.0.name c.requires.0.node in
    let ends : c.in_ok-end.end ≤ 512 = element-end c.requires.0 (own-place) ((rw c.view-v.ensures at c.arrange_content.ensures).built _ c.in_ok-end.was) in
    let mid-length : length c.arrange_content.new.out ≡ length c.args.out.now = c.arrange_content.auto.out ∙ simp length-set in
    let l = mid-length in
    element-arranged c.args.out.now c.args.m c.arrange_content.new.out c.arrange_content.result c.in_ok-end.end own
    (rw c.view-v.ensures at c.arrange_content.ensures) c.in_ok-end.was l (omega (arith, l, ends, c.requires.1)) (omega (arith, c.requires.0.fits, c.requires.1))
