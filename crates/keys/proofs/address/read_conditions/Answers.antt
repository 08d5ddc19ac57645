-- `read_conditions` meets its contract: the machine's answer from condition j on is the whole one.
use native.Mathlib.Omega.{arith}
use mathlib.Core.Path.{refl, sym, ◌∙◌}
use borrow.Author.Rules.{rules}
use Rattle.keys.specs.KeyList.{key_names_at}
use Rattle.keys.specs.AddressKeys.{few-keyed, keyed-at}
use Rattle.keys.specs.AddressTurns.{value-in, conditions-bare, going-starts, going-wrong, going_more, going-open, going_done}
use Rattle.keys.proofs.address.read_conditions.Goals as goal

pub key_count-count-requires : goal.key_count-count-requires
key_count-count-requires c = c.requires.0.table.held

pub returns-then-count-eq0 : goal.returns-then-count-eq0
returns-then-count-eq0 c = λ K p t e.
    let a = c.args in
    let s = a.s.now in
    let z = c.if-count-eq0.true in
    let n = c.key_count-count.ensures c.args.keys.now.text.now K p t e in
    conditions-bare s a.at _ (key_names_at K p) (omega arith) (omega arith)

pub loop-j-init : goal.loop-j-init
loop-j-init c = let a = c.args in
    let s = a.s.now in
    let z = c.if-count-eq0.false in
    (refl, omega arith, λ K p t e. let n = c.key_count-count.ensures c.args.keys.now.text.now K p t e in going-starts s a.at _ (key_names_at K p) (λ y. z (omega arith)))

pub condition-requires : goal.condition-requires
condition-requires c = let a = c.args in
    let s = a.s.now in
    let l = c.loop-j-test in
    (keyed-at c.requires.0 (c.key_count-count.ensures c.args.keys.now.text.now) (omega arith), omega arith, omega arith)

pub returns-in_err-v : goal.returns-in_err-v
returns-in_err-v c = rw c.from_residual.ensures (λ K p t e.
    let a = c.args in
    let s = a.s.now in
    let o = c.loop-j in
    let n = c.key_count-count.ensures c.args.keys.now.text.now K p t e in
    going-wrong (key_names_at K p) s a.at o.values o.next o.j (o.invariant.2 K p t e) (omega arith) (c.condition.ensures K p t e) c.in_err-v.was)

pub offset_bounds-values-j : goal.offset_bounds-values-j
offset_bounds-values-j c = let a = c.args in
    omega (arith, few-keyed c.requires.0 (c.key_count-count.ensures c.args.keys.now.text.now))

pub bounds-values-j : goal.bounds-values-j
bounds-values-j c = let a = c.args in
    let s = a.s.now in
    omega (arith, few-keyed c.requires.0 (c.key_count-count.ensures c.args.keys.now.text.now))

pub loop-j-preserved : goal.loop-j-preserved
loop-j-preserved c = let a = c.args in
    let s = a.s.now in
    let o = c.loop-j in
    let f = few-keyed c.requires.0 (c.key_count-count.ensures c.args.keys.now.text.now) in
    let h = c.requires.0 in
    let v = (value-in _ _ s o.next (c.condition.ensures h.key_list h.path h.table h.place_is) c.in_ok-v.was).1 in
    (search rules, omega arith, λ K p t e. let n = c.key_count-count.ensures c.args.keys.now.text.now K p t e in going_more (key_names_at K p) s a.at o.values o.next o.j (o.invariant.2 K p t e) (omega arith) c.in_ok-v.v o.invariant.0 (omega arith) (c.condition.ensures K p t e) c.in_ok-v.was)

pub returns-then-byte_at-ne93 : goal.returns-then-byte_at-ne93
returns-then-byte_at-ne93 c = λ K p t e.
    let a = c.args in
    let s = a.s.now in
    let o = c.loop-j in
    let n = c.key_count-count.ensures c.args.keys.now.text.now K p t e in
    going-open (key_names_at K p) s a.at o.values o.next o.j (o.invariant.2 K p t e) (omega arith) (λ q. c.if-byte_at-ne93.true (c.byte_at.ensures ∙ q))

pub overflow_add-result : goal.overflow_add-result
overflow_add-result c = omega arith

pub returns : goal.returns
returns c = λ K p t e.
    let a = c.args in
    let s = a.s.now in
    let o = c.loop-j in
    let n = c.key_count-count.ensures c.args.keys.now.text.now K p t e in
    going_done (key_names_at K p) s a.at o.values o.next o.j (o.invariant.2 K p t e) (omega arith) (sym c.byte_at.ensures ∙ c.if-byte_at-ne93.false)
