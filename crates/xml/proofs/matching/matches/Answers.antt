-- `xml::matching::matches` meets its contract: what the nodes are written as stands at the start, and ends where the text ends. Assumes nothing.
use lib.Dec.{eqb}
use lib.ListN.{length}
use mathlib.Core.Path.{ap, ◌∙◌}
use Prim.Native.Nat.{ℕ}
use Rattle.xml.specs.Forest.{write}
use Rattle.xml.specs.MatchingLaws.{match-same}
use Rattle.xml.proofs.matching.matches.Goals as goal

pub returns : goal.returns
returns c f h = let s = c.args.doc.now.src.now in ap (λ (n : ℕ). eqb n (length s)) (c.match_content.ensures f h) ∙ match-same s (write f)
