-- `xml::writer::put_word` meets its contract: all bytes fit, or some, or none. Assumes nothing.
use native.Mathlib.Omega.{arith}
use mathlib.Core.Path.{refl, sym, ◌∙◌}
use Rattle.xml.specs.OverLaws.{at-past}
use Rattle.xml.specs.WriteLaws.{at-some}
use Rattle.xml.proofs.writer.put_word.Goals.{then-at-word, else-at-word+then-at-out, else-at-word+else-at-out}
use Rattle.xml.proofs.writer.put_word.Goals as goal

pub returns : goal.returns
returns c = let a = c.args in
    record {
      place = refl;
      bytes = elim c.if-at-word.branch [
        | then-at-word w ↦ w.out-is ∙ w.copy.ensures
        | else-at-word+then-at-out w ↦ w.out-is ∙ w.copy-then-at-out.ensures ∙ at-some a.out.now a.at a.word.now (omega arith) (omega arith)
        | else-at-word+else-at-out w ↦ w.out-is ∙ sym (at-past a.out.now a.at a.word.now (omega arith))
      ];
    }
