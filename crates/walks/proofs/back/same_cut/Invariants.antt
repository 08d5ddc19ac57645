-- `walks::back::same_cut` meets its contract: the texts are the same where what is left of them is.
use mathlib.Core.Path.{◌≡◌}
use lib.Seq.{slice}
use Rattle.xml.specs.Bytes.{same}
use Rattle.walks.specs.Trimmed.{cut_text}
use Rattle.walks.proofs.back.same_cut.Given as goal

abbrev pub invariant-loop-k : goal.invariant-loop-k
invariant-loop-k l = (same (cut_text l.src l.a l.x.to l.x.tail l.i) (cut_text l.src l.b l.y.to l.y.tail l.i)
    ≡ same (slice l.k l.size (cut_text l.src l.a l.x.to l.x.tail l.i)) (slice l.k l.size (cut_text l.src l.b l.y.to l.y.tail l.i)))
