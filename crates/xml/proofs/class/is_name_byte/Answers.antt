-- `xml::class::is_name_byte` meets its contract. Assumes nothing.
use Prim.Native.Char.{code}
use mathlib.Core.Path.{sym, ◌∙◌, ap₂}
use mathlib.Core.Bool.{Bool, ◌||◌}
use lib.Dec.{eqb}
use Rattle.xml.specs.Bytes.{bytes, any, among, is_letter, is_digit}
use Rattle.xml.specs.ByteTests.{start_is, name-is}
use Rattle.xml.specs.Truth.{or-four}
use Rattle.xml.proofs.class.is_name_byte.Goals as goal

pub returns : goal.returns
unfolding bytes any among
returns c = let b = c.args.b in
    ap₂ (λ (t u : Bool). t || u || eqb b (code ".") || eqb b (code "-")) (c.is_name_start.ensures ∙ start_is b) c.is_digit.ensures
    ∙ or-four (is_letter b || eqb b (code "_")) (is_digit b) (eqb b (code ".")) (eqb b (code "-"))
    ∙ sym (name-is b)
