-- No key names, or one to four.
use mathlib.Core.Path.{sym, ◌∙◌}
use Rattle.keys.proofs.LineReadLaws.{no_keys, some-keys}
use Rattle.keys.proofs.notation.keys_end.Goals as goal

pub returns-then-same-eq1 : goal.returns-then-same-eq1
returns-then-same-eq1 c = no_keys c.args.text.now c.args.from c.requires (sym c.same.ensures ∙ c.if-same-eq1.true)

pub returns : goal.returns
returns c = some-keys c.args.text.now c.args.from c.requires (λ e. c.if-same-eq1.false (c.same.ensures ∙ e)) c.names_end.ensures
