-- `front::content_legal` meets its contract: one test a return. Assumes nothing.
use mathlib.Core.Path.{refl, sym, ◌∙◌, ap}
use mathlib.Core.Bool.{not}
use Rattle.legality.specs.Seen.{seen-new}
use Rattle.legality.proofs.front.content_legal.Goals as goal

pub returns-then-not-is_untimed : goal.returns-then-not-is_untimed
returns-then-not-is_untimed c d k t u = sym (rw (sym (c.is_untimed.ensures k u) ∙ c.if-not-is_untimed.true) refl)

pub returns-then-not-is_seen : goal.returns-then-not-is_seen
returns-then-not-is_seen c d k t u = rw (sym (c.is_untimed.ensures k u) ∙ c.if-not-is_untimed.false)
    (sym (ap not (seen-new _ _ k d (c.requires.2 k u) (sym c.is_seen.ensures ∙ c.if-not-is_seen.true) (c.requires.4 d t))))

pub returns : goal.returns
returns c d k t u = rw (sym (c.is_untimed.ensures k u) ∙ c.if-not-is_untimed.false) (ap not (c.is_repeated.ensures d k t u))
