-- The path counted so far and what is left make the whole.
use native.Mathlib.Omega.{arith}
use mathlib.Core.Path.{refl, sym, ◌∙◌}
use Rattle.keys.proofs.LineScanLaws.{slash-fits, name-fits, path-turn, path-stop, path-off}
use Rattle.keys.proofs.notation.path_end.Goals as goal

pub loop-n-init : goal.loop-n-init
loop-n-init c = (omega arith, refl)

pub same-requires : goal.same-requires
same-requires c = omega arith

pub overflow_add-i : goal.overflow_add-i
overflow_add-i c = omega arith

pub name_len-n-requires : goal.name_len-n-requires
name_len-n-requires c = slash-fits c.args.text.now c.loop-n.i c.loop-n.invariant.0 (sym c.same.ensures ∙ c.loop-n-test.true)

pub returns-then-n-eq0 : goal.returns-then-n-eq0
returns-then-n-eq0 c = sym (c.loop-n.invariant.1 ∙ let z = path-stop c.args.text.now c.loop-n.i (sym c.same.ensures ∙ c.loop-n-test.true) (sym c.if-n-eq0.true ∙ c.name_len-n.ensures) in omega arith)

pub overflow_add-i-in-loop-n : goal.overflow_add-i-in-loop-n
overflow_add-i-in-loop-n c = omega (arith, name-fits c.args.text.now c.loop-n.i c.name_len-n.ensures (slash-fits c.args.text.now c.loop-n.i c.loop-n.invariant.0 (sym c.same.ensures ∙ c.loop-n-test.true)))

pub overflow_add-i-in-loop-n-2 : goal.overflow_add-i-in-loop-n-2
overflow_add-i-in-loop-n-2 c = omega (arith, name-fits c.args.text.now c.loop-n.i c.name_len-n.ensures (slash-fits c.args.text.now c.loop-n.i c.loop-n.invariant.0 (sym c.same.ensures ∙ c.loop-n-test.true)))

pub loop-n-smaller : goal.loop-n-smaller
loop-n-smaller c = omega (arith, name-fits c.args.text.now c.loop-n.i c.name_len-n.ensures (slash-fits c.args.text.now c.loop-n.i c.loop-n.invariant.0 (sym c.same.ensures ∙ c.loop-n-test.true)))

pub loop-n-preserved : goal.loop-n-preserved
loop-n-preserved c = (omega (arith, name-fits c.args.text.now c.loop-n.i c.name_len-n.ensures (slash-fits c.args.text.now c.loop-n.i c.loop-n.invariant.0 (sym c.same.ensures ∙ c.loop-n-test.true))), c.loop-n.invariant.1 ∙ path-turn c.args.text.now c.loop-n.i (sym c.same.ensures ∙ c.loop-n-test.true) c.name_len-n.ensures c.if-n-eq0.false)

pub returns : goal.returns
returns c = sym (c.loop-n.invariant.1 ∙ let z = path-off c.args.text.now c.loop-n.i (λ e. c.loop-n-test.false (c.same.ensures ∙ e)) in omega arith)
