-- The names end where those that are left do.
use Prim.Native.Nat.{ℕ, suc, ◌+◌, ◌-◌}
use native.Mathlib.Omega.{arith}
use mathlib.Core.Path.{◌≡◌, refl, sym, ◌∙◌, ap}
use Rattle.xml.specs.Bytes.{bytes}
use Rattle.keys.specs.LineScans.{names_end}
use Rattle.keys.proofs.NamesEndLaws.{names-fail, names-stop, names-turn, names-fit, names-over, comma-fits}
use Rattle.keys.proofs.notation.names_end.Goals as goal

pub loop-name-init : goal.loop-name-init
loop-name-init c = (omega arith, refl)

pub overflow_add-i : goal.overflow_add-i
overflow_add-i c = omega arith

pub name_len-n-requires : goal.name_len-n-requires
name_len-n-requires c = omega arith

pub returns-then-n-eq0 : goal.returns-then-n-eq0
returns-then-n-eq0 c = let k = c.loop-name._name in
    let z : 4 - k ≡ suc (3 - k) = omega arith in
    sym (c.loop-name.invariant.1 ∙ ap (λ (r : ℕ). names_end c.args.text.now r c.loop-name.i) z ∙ names-fail c.args.text.now (3 - k) c.loop-name.i c.name_len-n.ensures c.if-n-eq0.true)

pub overflow_add-i-in-loop-name : goal.overflow_add-i-in-loop-name
overflow_add-i-in-loop-name c = omega (arith, names-fit c.args.text.now c.loop-name.i c.name_len-n.ensures (omega arith))

pub overflow_add-i-in-loop-name-2 : goal.overflow_add-i-in-loop-name-2
overflow_add-i-in-loop-name-2 c = omega (arith, names-fit c.args.text.now c.loop-name.i c.name_len-n.ensures (omega arith))

pub same-requires : goal.same-requires
same-requires c = omega (arith, names-fit c.args.text.now c.loop-name.i c.name_len-n.ensures (omega arith))

pub returns-then-same-ne2 : goal.returns-then-same-ne2
unfolding bytes
returns-then-same-ne2 c = let k = c.loop-name._name in
    let z : 4 - k ≡ suc (3 - k) = omega arith in
    sym (c.loop-name.invariant.1 ∙ ap (λ (r : ℕ). names_end c.args.text.now r c.loop-name.i) z
    ∙ names-stop c.args.text.now (3 - k) c.loop-name.i c.name_len-n.ensures (c.loop-name.i + (2 + c.name_len-n.result)) refl c.if-n-eq0.false (λ e. c.if-same-ne2.true (c.same.ensures ∙ e)))

pub loop-name-preserved : goal.loop-name-preserved
unfolding bytes
loop-name-preserved c = let k = c.loop-name._name in
    let z : 4 - k ≡ suc (3 - k) = omega arith in
    let y : 3 - k ≡ 4 - (k + 1) = omega arith in
    let j = c.loop-name.i + (2 + c.name_len-n.result) in
    let g = sym c.same.ensures ∙ c.if-same-ne2.false in (
      comma-fits c.args.text.now j (omega (arith, names-fit c.args.text.now c.loop-name.i c.name_len-n.ensures (omega arith))) g,
      c.loop-name.invariant.1 ∙ ap (λ (r : ℕ). names_end c.args.text.now r c.loop-name.i) z
          ∙ names-turn c.args.text.now (3 - k) c.loop-name.i c.name_len-n.ensures j refl c.if-n-eq0.false g ∙ ap (λ (r : ℕ). names_end c.args.text.now r j) y,
    )

pub returns : goal.returns
returns c = let z : 4 - c.loop-name._name ≡ 0 = omega arith in
    sym (c.loop-name.invariant.1 ∙ ap (λ (r : ℕ). names_end c.args.text.now r c.loop-name.i) z ∙ names-over c.args.text.now c.loop-name.i)
