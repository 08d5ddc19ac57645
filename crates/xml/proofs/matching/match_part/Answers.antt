-- `xml::matching::match_part` meets its contract: a part stands at its own place, and is a word elsewhere. Assumes nothing.
use mathlib.Core.Path.{ap, sym, ◌∙◌}
use Rattle.xml.specs.Matching.{match_at}
use Rattle.xml.specs.MatchingLaws.{match-here}
use Rattle.xml.proofs.Tags.{part-is}
use Rattle.xml.proofs.matching.match_part.Goals as goal

pub returns-then-a-at : goal.returns-then-a-at
returns-then-a-at c = let a = c.args in rw (← c.if-a-at.true) (sym (match-here a.src.now a.a a.e c.requires.2 c.requires.3))

pub returns : goal.returns
returns c = let a = c.args in c.match_word.ensures ∙ ap (match_at a.src.now a.at) (part-is a.a a.e a.src.now c.requires.2)
