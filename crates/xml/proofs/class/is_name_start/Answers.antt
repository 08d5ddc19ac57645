-- `xml::class::is_name_start` meets its contract. Assumes nothing.
use Prim.Native.Char.{code}
use mathlib.Core.Path.{sym, ◌∙◌, ap}
use mathlib.Core.Bool.{Bool, ◌||◌}
use lib.Dec.{eqb}
use Rattle.xml.specs.ByteTests.{start_is}
use Rattle.xml.proofs.class.is_name_start.Goals as goal

pub returns : goal.returns
returns c = let b = c.args.b in
    ap (λ (t : Bool). t || eqb b (code "_")) c.is_letter.ensures ∙ sym (start_is b)
