-- `xml::class::is_markup` meets its contract. Assumes nothing.
use Prim.Native.Char.{code}
use mathlib.Core.Bool.{false}
use lib.Dec.{eqb}
use Rattle.xml.specs.Bytes.{bytes, any, among}
use Rattle.xml.specs.Truth.{or-four}
use Rattle.xml.proofs.class.is_markup.Goals as goal

pub returns : goal.returns
unfolding bytes any among
returns c = or-four false false (eqb c.args.b (code "<")) (eqb c.args.b (code "&"))
