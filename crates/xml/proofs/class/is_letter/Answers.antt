-- `xml::class::is_letter` meets its contract. Assumes nothing.
use Prim.Native.Char.{code}
use mathlib.Core.Path.{ap}
use mathlib.Core.Bool.{Bool, ◌&&◌, ◌||◌}
use lib.Dec.{leb}
use Rattle.xml.specs.Bytes.{is_letter, within}
use Rattle.xml.proofs.class.is_letter.Goals as goal

pub returns : goal.returns
unfolding is_letter within
returns c = let b = c.args.b in
    ap (λ (t : Bool). leb (code "A") b && leb b (code "Z") || t) c.is_small.ensures
