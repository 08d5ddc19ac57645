-- `xml::names::cell_precedes` meets its contract: the whole of the name is compared. Assumes nothing.
use Prim.Native.Nat.{◌+◌, ◌/◌, ◌%◌}
use native.Mathlib.Omega.{arith}
use mathlib.Core.Path.{ap, ◌∙◌}
use Rattle.xml.specs.Bytes.{Bytes}
use Rattle.xml.specs.Tags.{less}
use Rattle.xml.proofs.Tags.{part-is}
use Rattle.xml.proofs.names.cell_precedes.Goals as goal

pub returns : goal.returns
returns c = let a = c.args in
    c.precedes.ensures ∙ ap (λ (x : Bytes). less x a.name.now) (part-is (a.cell / 64) (a.cell / 64 + a.cell % 64) a.src.now (omega arith))
