-- `xml::scan::is_special` meets its contract: a law of plain bytes (ByteTests). Assumes nothing.
use Prim.Native.Char.{code}
use mathlib.Core.Path.{◌∙◌, ap, ap₂}
use mathlib.Core.Bool.{Bool, not, ◌||◌}
use lib.Dec.{eqb}
use Rattle.xml.specs.Bytes.{among, is_white}
use Rattle.xml.specs.ByteTests.{special-is}
use Rattle.xml.proofs.scan.is_special.Goals as goal

pub returns : goal.returns
returns c = let b = c.args.b in
    ap₂ (λ (m w : Bool). m || eqb b (code "]") || eqb b (code ">") || not (w || c.is_printed.result)) c.is_markup.ensures c.is_white_byte.ensures
    ∙ ap (λ (p : Bool). among "<&" b || eqb b (code "]") || eqb b (code ">") || not (is_white b || p)) c.is_printed.ensures ∙ special-is b
