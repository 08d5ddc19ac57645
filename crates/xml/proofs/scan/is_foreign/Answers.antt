-- `xml::scan::is_foreign` meets its contract. Assumes nothing.
use Prim.Native.Char.{code}
use mathlib.Core.Path.{◌∙◌, ap}
use mathlib.Core.Bool.{Bool, false, not, ◌||◌}
use lib.Dec.{eqb}
use Rattle.xml.specs.Bytes.{bytes, any, among, is_digit, is_times}
use Rattle.xml.specs.Truth.{or-four}
use Rattle.xml.proofs.scan.is_foreign.Goals as goal

pub returns : goal.returns
unfolding bytes any among is_times
returns c = let b = c.args.b in
    ap (λ (t : Bool). not (t || eqb b (code "-") || eqb b (code ","))) c.is_digit.ensures
    ∙ ap not (or-four false (is_digit b) (eqb b (code "-")) (eqb b (code ",")))
