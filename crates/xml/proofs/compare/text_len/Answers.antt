-- `xml::compare::text_len` meets its contract: a run with no marked byte is written as it stands, and an empty output measures others. Assumes nothing.
use native.Mathlib.Nat.{sub-zero}
use native.Mathlib.Omega.{arith}
use mathlib.Core.Path.{ap, sym, ◌∙◌}
use lib.ListN.{length}
use lib.Seq.{take-length}
use Rattle.xml.specs.Bytes.{Bytes}
use Rattle.xml.specs.Signs.{spelt}
use Rattle.xml.specs.SignLaws.{plain-length}
use Rattle.xml.proofs.compare.text_len.Goals as goal

pub returns-then-plain_end-run : goal.returns-then-plain_end-run
returns-then-plain_end-run c = let s = c.args.run.now in
    sym (sub-zero (length s)) ∙ plain-length s 0 (length s) (omega arith) (omega arith) (sym c.if-plain_end-run.true ∙ c.plain_end.ensures)
    ∙ ap (λ (x : Bytes). length (spelt x)) (take-length s)
