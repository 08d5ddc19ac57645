-- `xml::matching::match_word` meets its contract: nothing stands past the end, and elsewhere the bytes that agree are counted. Assumes nothing.
use mathlib.Core.Path.{sym, ◌∙◌}
use Rattle.xml.specs.MatchingLaws.{match-hit, match-miss, match-past}
use Rattle.xml.proofs.matching.match_word.Goals as goal

pub returns-then-src-at : goal.returns-then-src-at
returns-then-src-at c = let a = c.args in sym (match-past a.src.now a.at a.word.now c.if-src-at.true c.requires.0)

pub returns-then-same-word : goal.returns-then-same-word
returns-then-same-word c = let a = c.args in sym (match-miss a.src.now a.at a.word.now (λ h. c.if-same-word.true (c.same.ensures ∙ h)))

pub returns : goal.returns
returns c = let a = c.args in sym (match-hit a.src.now a.at a.word.now (sym c.same.ensures ∙ c.if-same-word.false))
