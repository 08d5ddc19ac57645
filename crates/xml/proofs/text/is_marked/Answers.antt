-- `xml::text::is_marked` meets its contract. Assumes nothing.
use Prim.Native.Char.{code}
use mathlib.Core.Path.{sym, ◌∙◌, ap}
use mathlib.Core.Bool.{Bool, ◌||◌}
use lib.Dec.{eqb}
use Rattle.xml.specs.SignLaws.{marked-is}
use Rattle.xml.proofs.text.is_marked.Goals as goal

pub returns : goal.returns
returns c = let b = c.args.b in
    ap (λ (t : Bool). t || eqb b (code ">") || eqb b (code "\r")) c.is_markup.ensures ∙ sym (marked-is b)
