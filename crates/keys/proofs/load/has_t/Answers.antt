-- The name, then the key names.
use Rattle.std.proofs.lemmas.Slice.{between_is}
use mathlib.Core.Path.{sym, ap, ◌∙◌}
use mathlib.Core.Bool.{Bool, ◌||◌}
use mathlib.Core.List.{[], ◌∷◌}
use Rattle.xml.specs.Bytes.{any, same}
use Rattle.keys.proofs.load.has_t.Goals as goal

pub returns-then-same_bytes : goal.returns-then-same_bytes
returns-then-same_bytes c = λ ns r. sym (ap (λ (b : Bool). b || any (same (84 ∷ [])) ns) (sym (simp between_is at c.same_bytes.ensures) ∙ c.if-same_bytes.true))

pub returns : goal.returns
returns c = λ ns r. c.is_among.ensures ns r ∙ sym (ap (λ (b : Bool). b || any (same (84 ∷ [])) ns) (sym (simp between_is at c.same_bytes.ensures) ∙ c.if-same_bytes.false))
