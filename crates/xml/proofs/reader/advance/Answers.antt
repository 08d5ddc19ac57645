-- `xml::reader::advance` meets its contract: each token's function has the same one, and there is a law for each return outside the root
-- (Closes). Assumes nothing.
use mathlib.Core.Path.{sym, ◌∙◌}
use native.Mathlib.Omega.{arith}
use Rattle.xml.proofs.Closes.{opening, outside, outside-whites, outside-other, outside-second, opening-root}
use Rattle.xml.proofs.reader.advance.Goals.{then-from-gt0-2+else-byte_at-eq47, else-from-gt0-2+else-from-gt0-3}
use Rattle.xml.proofs.reader.advance.Goals as goal

pub returns-then-is_white_byte : goal.returns-then-is_white_byte
returns-then-is_white_byte c = outside-whites (outside c.requires c.if-from-gt0.false) (sym c.is_white_byte.ensures ∙ c.if-is_white_byte.true) c.pass_bytes.ensures.passed

pub returns-then-b-ne60 : goal.returns-then-b-ne60
returns-then-b-ne60 c = outside-other (outside c.requires c.if-from-gt0.false) (sym c.is_white_byte.ensures ∙ c.if-is_white_byte.false) c.if-b-ne60.true

pub returns-then-from-gt0-3 : goal.returns-then-from-gt0-3
returns-then-from-gt0-3 c = outside-second (outside c.requires c.if-from-gt0-2.false) c.if-b-ne60.false (λ z. omega arith)

pub open_tag-requires : goal.open_tag-requires
open_tag-requires c =
    elim c.if-from-gt0-2.branch [
      | then-from-gt0-2+else-byte_at-eq47 w ↦ opening c.requires w.if-from-gt0-2.true c.if-b-ne60.false (λ x. w.if-byte_at-eq47.false (w.byte_at.ensures ∙ x))
      | else-from-gt0-2+else-from-gt0-3 w ↦ opening-root c.requires w.if-from-gt0-2.false c.if-b-ne60.false w.if-from-gt0-3.false
    ]
