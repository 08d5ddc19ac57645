-- `xml::class::is_small` meets its contract: it computes the test. Assumes nothing.
use mathlib.Core.Path.{refl}
use Rattle.xml.specs.Bytes.{within}
use Rattle.xml.proofs.class.is_small.Goals as goal

pub returns : goal.returns
unfolding within
returns c = refl
