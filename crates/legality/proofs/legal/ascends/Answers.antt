-- `ascends` meets its contract.
use mathlib.Core.Path.{sym, ◌∙◌}
use Rattle.keys.specs.Version.{label}
use Rattle.keys.specs.Ranks.{first-is}
use Rattle.versions.specs.LegalSteps.{ascends_none, ascends-one}
use Rattle.legality.proofs.legal.ascends.Goals as goal

pub returns-then-hi-last : goal.returns-then-hi-last
returns-then-hi-last c K q t e o m k w a b = sym (ascends_none (label K q m k) w c.if-hi-last.true)

pub compare_labels-requires : goal.compare_labels-requires
compare_labels-requires c = (c.requires.0 c.if-hi-last.false, c.requires.1)

pub returns : goal.returns
returns c K q t e o m k w a b = c.is_lt.ensures ∙ first-is c.compare_labels.result ∙ ascends-one (label K q m k) _ (λ m1 k1 x y. c.compare_labels.ensures K q t e m1 k1 m k x y a b) w c.if-hi-last.false
