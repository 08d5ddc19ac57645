-- `parse_address` meets its contract: the machine's answer from the place is the whole one, and the steps so far are in the arrays.
use native.Mathlib.Omega.{arith}
use mathlib.Core.Path.{refl}
use mathlib.Core.List.{map}
use borrow.Author.Rules.{rules}
use Rattle.keys.specs.Version.{name_in}
use Rattle.keys.specs.AddressLoop.{parsing-starts, parsing-more, parsing-full, parsing-wrong, parsing-none, parsing-done}
use Rattle.keys.proofs.address.parse_address.Goals as goal

pub loop-at-init : goal.loop-at-init
loop-at-init c = (refl, refl, refl, omega arith, λ K t. parsing-starts K _ _ _ _)

pub returns-then-count-eq8 : goal.returns-then-count-eq8
returns-then-count-eq8 c = let a = c.args in
    let s = a.s.now in
    let o = c.loop-at in
    λ K t. parsing-full K s o.names o.places o.found o.count o.place o.at (o.invariant.4 K t) c.args.keys.now.text.now t.accepted (omega arith) c.if-count-eq8.true

pub read_step-requires : goal.read_step-requires
read_step-requires c = let o = c.loop-at in
    let h = c.requires.0 in
    let g = o.invariant.4 h.key_list h.table in
    (record { key_list = h.key_list; path = map name_in g.done; table = h.table; place_is = g.place_is }, omega arith, omega arith)

pub returns-in_default : goal.returns-in_default
returns-in_default c = let a = c.args in
    let s = a.s.now in
    let o = c.loop-at in
    λ K t. let g = o.invariant.4 K t in
    parsing-wrong K s o.names o.places o.found o.count o.place o.at (o.invariant.4 K t) c.args.keys.now.text.now t.accepted (omega arith)
    (c.read_step.ensures K (map name_in g.done) t g.place_is) c.in_default.is

pub offset_bounds-found-count : goal.offset_bounds-found-count
offset_bounds-found-count c = omega arith

pub bounds-found-count : goal.bounds-found-count
bounds-found-count c = omega arith

pub offset_bounds-names-count : goal.offset_bounds-names-count
offset_bounds-names-count c = omega arith

pub bounds-names-count : goal.bounds-names-count
bounds-names-count c = omega arith

pub offset_bounds-places-count : goal.offset_bounds-places-count
offset_bounds-places-count c = omega arith

pub bounds-places-count : goal.bounds-places-count
bounds-places-count c = omega arith

pub overflow_add-count : goal.overflow_add-count
overflow_add-count c = omega arith

pub loop-at-smaller : goal.loop-at-smaller
loop-at-smaller c = omega arith

pub loop-at-preserved : goal.loop-at-preserved
loop-at-preserved c = let a = c.args in
    let s = a.s.now in
    let o = c.loop-at in (
      search rules,
      search rules,
      search rules,
      omega arith,
      λ K t. let g = o.invariant.4 K t in
          parsing-more K s o.names o.places o.found o.count o.place o.at (o.invariant.4 K t) c.in-Some.step o.invariant.0 o.invariant.1 o.invariant.2 (omega arith)
          (c.read_step.ensures K (map name_in g.done) t g.place_is) c.in-Some.is,
    )

pub returns : goal.returns
returns c = let a = c.args in
    let s = a.s.now in
    let o = c.loop-at in
    λ K t. parsing-done K s o.names o.places o.found o.count o.place o.at (o.invariant.4 K t) c.args.keys.now.text.now t.accepted (omega arith) c.if-count-eq0.false

pub returns-then-count-eq0 : goal.returns-then-count-eq0
returns-then-count-eq0 c = let a = c.args in
    let s = a.s.now in
    let o = c.loop-at in
    λ K t. parsing-none K s o.names o.places o.found o.count o.place o.at (o.invariant.4 K t) c.args.keys.now.text.now t.accepted (omega arith) c.if-count-eq0.true
