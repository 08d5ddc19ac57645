use Prim.Native.Nat.{◌≤◌}
use native.Mathlib.Omega.{arith}
use mathlib.Core.Path.{◌≡◌, sym, ◌∙◌}
use mathlib.Core.Bool.{true}
use Rattle.keys.specs.KeyList.{above}
use Rattle.keys.specs.Placed.{OfPlace}
use Rattle.keys.specs.Places.{first_below}
use Rattle.keys.specs.TableLaws.{table-first, search-starts, search-goes, search-shut, search-finds, search-ends}
use Rattle.keys.proofs.places.KeyTable.child.Goals as goal

pub is_above-requires : goal.is_above-requires
is_above-requires c = c.requires.table.held

pub returns-then-not-is_above : goal.returns-then-not-is_above
returns-then-not-is_above c = search-shut c.args.self.now.text.now c.args.self.now.table.now c.args.self.now.paths c.args.place c.args.name.now (λ K p t e. sym c.if-not-is_above.true ∙ c.is_above.ensures c.args.self.now.text.now K p t e)

pub first_below-i-requires : goal.first_below-i-requires
first_below-i-requires c =
    let inner : OfPlace c.args.self.now.text.now c.args.self.now.table.now c.args.self.now.paths c.args.place (λ K p. true ≡ above K p) = λ K p t e. sym (c.if-not-is_above.false) ∙ c.is_above.ensures c.args.self.now.text.now K p t e in
    let first : (c.args.place ≤ 128) × (first_below c.args.place ≤ c.args.self.now.paths) = let h = c.requires in table-first h.table h.path c.args.place h.place_is (sym (inner h.key_list h.path h.table h.place_is)) in
    first.0

pub loop-i-init : goal.loop-i-init
loop-i-init c =
    let inner : OfPlace c.args.self.now.text.now c.args.self.now.table.now c.args.self.now.paths c.args.place (λ K p. true ≡ above K p) = λ K p t e. sym (c.if-not-is_above.false) ∙ c.is_above.ensures c.args.self.now.text.now K p t e in
    let first : (c.args.place ≤ 128) × (first_below c.args.place ≤ c.args.self.now.paths) = let h = c.requires in table-first h.table h.path c.args.place h.place_is (sym (inner h.key_list h.path h.table h.place_is)) in
    (omega (arith, first.1, c.first_below-i.ensures), search-starts c.args.self.now.text.now c.args.self.now.table.now c.args.self.now.paths c.args.place c.args.name.now c.first_below-i.result c.first_below-i.ensures inner)

pub is_child-requires : goal.is_child-requires
is_child-requires c = let w = (c.requires.table.entry c.loop-i.i (omega arith)).within in (omega (arith, c.requires.table.held), w)

pub returns-then-is_child : goal.returns-then-is_child
returns-then-is_child c =
    let inner : OfPlace c.args.self.now.text.now c.args.self.now.table.now c.args.self.now.paths c.args.place (λ K p. true ≡ above K p) = λ K p t e. sym (c.if-not-is_above.false) ∙ c.is_above.ensures c.args.self.now.text.now K p t e in
    search-finds c.args.self.now.text.now c.args.self.now.table.now c.args.self.now.paths c.args.place c.args.name.now c.loop-i.i (omega arith) c.loop-i.invariant.1 inner (sym c.is_child.ensures ∙ c.if-is_child.true)

pub overflow_add-i : goal.overflow_add-i
overflow_add-i c = omega arith

pub loop-i-smaller : goal.loop-i-smaller
loop-i-smaller c = omega arith

pub loop-i-preserved : goal.loop-i-preserved
loop-i-preserved c = (omega arith, search-goes c.args.self.now.text.now c.args.self.now.table.now c.args.self.now.paths c.args.place c.args.name.now c.loop-i.i (omega arith) c.loop-i.invariant.1 (sym c.is_child.ensures ∙ c.if-is_child.false))

pub returns : goal.returns
returns c = search-ends c.args.self.now.text.now c.args.self.now.table.now c.args.self.now.paths c.args.place c.args.name.now c.loop-i.i (omega arith) c.loop-i.invariant.1
