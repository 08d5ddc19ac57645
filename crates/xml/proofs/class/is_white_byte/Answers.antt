-- `xml::class::is_white_byte` meets its contract. Assumes nothing.
use Prim.Native.Char.{code}
use mathlib.Core.Path.{sym, ◌∙◌}
use lib.Dec.{eqb}
use Rattle.xml.specs.Bytes.{bytes, any, among}
use Rattle.xml.specs.ByteTests.{white-is}
use Rattle.xml.specs.Truth.{or-four}
use Rattle.xml.proofs.class.is_white_byte.Goals as goal

pub returns : goal.returns
unfolding bytes any among
returns c = let b = c.args.b in
    or-four (eqb b (code "\t")) (eqb b (code "\n")) (eqb b (code "\r")) (eqb b (code " ")) ∙ sym (white-is b)
