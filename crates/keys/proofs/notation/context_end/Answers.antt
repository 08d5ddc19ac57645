-- The first line's context is `/`, every other's a path.
use mathlib.Core.Path.{sym, ◌∙◌}
use mathlib.Core.List.{[], ◌∷◌}
use Rattle.keys.proofs.LineReadLaws.{first-context, no-first-context, no-bracket, no-path, later-context, word_fits}
use Rattle.keys.proofs.notation.context_end.Goals as goal

pub returns-then-same-eq2 : goal.returns-then-same-eq2
returns-then-same-eq2 c = first-context c.args.text.now c.args.at c.if-at-eq0.true (sym c.same.ensures ∙ c.if-same-eq2.true) c.requires.0

pub returns-then-at-eq0 : goal.returns-then-at-eq0
returns-then-at-eq0 c = no-first-context c.args.text.now c.args.at c.if-at-eq0.true (λ e. c.if-same-eq2.false (c.same.ensures ∙ e))

pub returns-then-same-ne1 : goal.returns-then-same-ne1
returns-then-same-ne1 c = no-bracket c.args.text.now c.args.at c.if-at-eq0.false (λ e. c.if-same-ne1.true (c.same-2.ensures ∙ e))

pub path_end-end-requires : goal.path_end-end-requires
path_end-end-requires c = c.requires.1.within (word_fits (40 ∷ []) c.args.text.now c.args.at c.requires.0 (sym c.same-2.ensures ∙ c.if-same-ne1.false))

pub returns-then-end-at : goal.returns-then-end-at
returns-then-end-at c = no-path c.args.text.now c.args.at c.if-at-eq0.false c.path_end-end.result (c.path_end-end.ensures ∙ sym c.requires.1.run) c.if-end-at.true

pub returns : goal.returns
returns c = later-context c.args.text.now c.args.at c.if-at-eq0.false c.path_end-end.result (c.path_end-end.ensures ∙ sym c.requires.1.run) (sym c.same-2.ensures ∙ c.if-same-ne1.false) c.requires.0 c.if-end-at.false
