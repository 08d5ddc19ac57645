-- The rest of a line: its key names, distinct, and `}))`.
use mathlib.Core.Path.{sym, ◌∙◌}
use Rattle.keys.proofs.LineLaws.{closing-fits, no-closing, keys-rowed, not-once, line-is}
use Rattle.keys.proofs.notation.line_end.Goals as goal

pub same-requires : goal.same-requires
same-requires c = closing-fits c.args.text.now c.args.at c.args.context c.args.name c.requires c.keys_end.ensures _ c.in_ok-names.was

pub returns-then-same-ne4 : goal.returns-then-same-ne4
returns-then-same-ne4 c = no-closing c.args.text.now c.args.at c.args.context c.args.name c.requires c.keys_end.ensures _ c.in_ok-names.was (λ e. c.if-same-ne4.true (c.same.ensures ∙ e))

pub are_distinct-requires : goal.are_distinct-requires
are_distinct-requires c = keys-rowed c.args.text.now c.args.at c.args.context c.args.name c.requires c.keys_end.ensures _ c.in_ok-names.was (sym c.same.ensures ∙ c.if-same-ne4.false)

pub returns-then-not-are_distinct : goal.returns-then-not-are_distinct
returns-then-not-are_distinct c = not-once c.args.text.now c.args.at c.args.context c.args.name c.requires c.keys_end.ensures _ c.in_ok-names.was c.are_distinct.ensures c.if-not-are_distinct.true

pub returns : goal.returns
returns c = line-is c.args.text.now c.args.at c.args.context c.args.name c.requires c.keys_end.ensures _ c.in_ok-names.was (sym c.same.ensures ∙ c.if-same-ne4.false) c.are_distinct.ensures c.if-not-are_distinct.false
