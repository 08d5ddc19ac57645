-- `xml::class::is_printed` meets its contract: it computes the test. Assumes nothing.
use mathlib.Core.Path.{refl}
use Rattle.xml.specs.Bytes.{within}
use Rattle.xml.proofs.class.is_printed.Goals as goal

pub returns : goal.returns
unfolding within
returns c = refl
