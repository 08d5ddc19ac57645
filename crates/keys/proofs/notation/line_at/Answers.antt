-- A line up to the `, {` after its name: a part that is missing shows that there is none.
use mathlib.Core.Path.{sym, ◌∙◌}
use native.Mathlib.Omega.{arith}
use Rattle.keys.proofs.LineLaws.{no-comma, no_name, no-keys-open, name-starts, name-stops, name-read}
use Rattle.keys.proofs.notation.line_at.Goals as goal

pub context_end-requires : goal.context_end-requires
context_end-requires c = c.requires

pub same-requires : goal.same-requires
same-requires c = (c.context_end.ensures.real _ c.in_ok-context.was).within

pub returns-then-same-ne3 : goal.returns-then-same-ne3
returns-then-same-ne3 c = no-comma c.args.text.now c.args.at c.context_end.ensures _ c.in_ok-context.was (λ e. c.if-same-ne3.true (c.same.ensures ∙ e))

pub overflow_add-name : goal.overflow_add-name
overflow_add-name c = omega (arith, name-starts c.args.text.now c.args.at c.context_end.ensures _ c.in_ok-context.was (sym c.same.ensures ∙ c.if-same-ne3.false))

pub overflow_add-context : goal.overflow_add-context
overflow_add-context c = omega (arith, name-starts c.args.text.now c.args.at c.context_end.ensures _ c.in_ok-context.was (sym c.same.ensures ∙ c.if-same-ne3.false))

pub name_len-requires : goal.name_len-requires
name_len-requires c = name-starts c.args.text.now c.args.at c.context_end.ensures _ c.in_ok-context.was (sym c.same.ensures ∙ c.if-same-ne3.false)

pub overflow_add-name-2 : goal.overflow_add-name-2
overflow_add-name-2 c = omega (arith, name-stops c.args.text.now c.args.at c.context_end.ensures _ c.in_ok-context.was (sym c.same.ensures ∙ c.if-same-ne3.false) c.name_len.ensures)

pub overflow_add-context-2 : goal.overflow_add-context-2
overflow_add-context-2 c = omega (arith, name-starts c.args.text.now c.args.at c.context_end.ensures _ c.in_ok-context.was (sym c.same.ensures ∙ c.if-same-ne3.false))

pub returns-then-name-context : goal.returns-then-name-context
returns-then-name-context c = no_name c.args.text.now c.args.at c.context_end.ensures _ c.in_ok-context.was c.name_len.result c.name_len.ensures c.if-name-context.true

pub same-requires-2 : goal.same-requires-2
same-requires-2 c = name-stops c.args.text.now c.args.at c.context_end.ensures _ c.in_ok-context.was (sym c.same.ensures ∙ c.if-same-ne3.false) c.name_len.ensures

pub returns-then-same-ne3-2 : goal.returns-then-same-ne3-2
returns-then-same-ne3-2 c = no-keys-open c.args.text.now c.args.at c.context_end.ensures _ c.in_ok-context.was c.name_len.result c.name_len.ensures (λ e. c.if-same-ne3-2.true (c.same-2.ensures ∙ e))

pub line_end-requires : goal.line_end-requires
line_end-requires c = name-read c.args.text.now c.args.at c.context_end.ensures _ c.in_ok-context.was c.name_len.result c.name_len.ensures (sym c.same.ensures ∙ c.if-same-ne3.false) c.if-name-context.false (sym c.same-2.ensures ∙ c.if-same-ne3-2.false)
