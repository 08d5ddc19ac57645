-- `xml::reader::node` meets its contract: the test decides between its two cases. Assumes nothing.
use mathlib.Core.Path.{refl}
use native.Mathlib.Omega.{arith}
use Rattle.xml.proofs.reader.node.Goals as goal

pub returns-then-tape-count : goal.returns-then-tape-count
returns-then-tape-count c = record { fits = λ h. absurd (omega (arith, h)); over = λ h. (refl, refl) }

pub returns : goal.returns
returns c = record { fits = λ h. (refl, refl); over = λ h. absurd (omega (arith, h)) }
