-- `xml::attributes::is_quote` meets its contract. Assumes nothing.
use Prim.Native.Char.{code}
use mathlib.Core.Bool.{false}
use lib.Dec.{eqb}
use Rattle.xml.specs.Tags.{tags_compute}
use Rattle.xml.specs.Truth.{or-four}
use Rattle.xml.proofs.attributes.is_quote.Goals as goal

pub returns : goal.returns
unfolding tags_compute
returns c = or-four false false (eqb c.args.b (code "\"")) (eqb c.args.b (code "'"))
