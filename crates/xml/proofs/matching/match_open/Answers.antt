-- `xml::matching::match_open` meets its contract: three pieces, one after the other. Assumes nothing.
use Rattle.xml.specs.Bytes.{bytes}
use Rattle.xml.specs.MatchingLaws.{match-fits, match-then}
use Rattle.xml.specs.TapeLaws.{opening}
use Rattle.xml.proofs.matching.match_open.Goals as goal

pub match_tag-last-requires : goal.match_tag-last-requires
match_tag-last-requires c = let a = c.args in let h = c.requires in (match-fits a.src.now a.at _ c.match_word-name.ensures h.0, h.1, h.2, h.3)

pub match_word-requires : goal.match_word-requires
match_word-requires c = let a = c.args in let h = c.requires in (match-fits a.src.now _ _ c.match_tag-last.ensures (match-fits a.src.now a.at _ c.match_word-name.ensures h.0), h.1)

pub returns-then-element : goal.returns-then-element
unfolding opening bytes
returns-then-element c = let a = c.args in
    rw c.if-element.true (match-then a.src.now a.at _ _ (match-then a.src.now a.at _ _ c.match_word-name.ensures c.match_tag-last.ensures) c.match_word.ensures)

pub match_part-last-requires : goal.match_part-last-requires
match_part-last-requires c = let a = c.args in let h = c.requires in (match-fits a.src.now a.at _ c.match_word-times.ensures h.0, h.1, h.2, h.3)

pub match_word-requires-2 : goal.match_word-requires-2
match_word-requires-2 c = let a = c.args in let h = c.requires in (match-fits a.src.now _ _ c.match_part-last.ensures (match-fits a.src.now a.at _ c.match_word-times.ensures h.0), h.1)

pub returns : goal.returns
unfolding opening bytes
returns c = let a = c.args in
    rw c.if-element.false (match-then a.src.now a.at _ _ (match-then a.src.now a.at _ _ c.match_word-times.ensures c.match_part-last.ensures) c.match_word-2.ensures)
