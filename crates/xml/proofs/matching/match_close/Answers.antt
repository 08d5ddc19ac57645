-- `xml::matching::match_close` meets its contract: three pieces, or one. Assumes nothing.
use Rattle.xml.specs.Bytes.{bytes}
use Rattle.xml.specs.MatchingLaws.{match-fits, match-then}
use Rattle.xml.specs.TapeLaws.{closing}
use Rattle.xml.proofs.matching.match_close.Goals as goal

pub match_part-last-requires : goal.match_part-last-requires
match_part-last-requires c = let a = c.args in let h = c.requires in (match-fits a.src.now a.at _ c.match_word-name.ensures h.0, h.1, h.2, h.3)

pub match_word-requires : goal.match_word-requires
match_word-requires c = let a = c.args in let h = c.requires in (match-fits a.src.now _ _ c.match_part-last.ensures (match-fits a.src.now a.at _ c.match_word-name.ensures h.0), h.1)

pub returns-then-element : goal.returns-then-element
unfolding closing bytes
returns-then-element c = let a = c.args in
    rw c.if-element.true (match-then a.src.now a.at _ _ (match-then a.src.now a.at _ _ c.match_word-name.ensures c.match_part-last.ensures) c.match_word.ensures)

pub returns : goal.returns
unfolding closing bytes
returns c = rw c.if-element.false c.match_word-2.ensures
