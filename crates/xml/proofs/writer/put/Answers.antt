-- `xml::writer::put` meets its contract: a store, or nothing past the end. Assumes nothing.
use mathlib.Core.Path.{◌≡◌, refl, ap, sym, ◌∙◌}
use mathlib.Core.List.{[], ◌∷◌}
use lib.ListN.{length}
use Rattle.xml.specs.Over.{over_at}
use Rattle.xml.specs.OverLaws.{at_set, at-past, length_at}
use Rattle.xml.proofs.writer.put.Goals.{then-at-out, else-at-out}
use Rattle.xml.proofs.writer.put.Goals as goal

pub shape_of-out : goal.shape_of-out
shape_of-out c =
    let written : c.if-at-out.out ≡ over_at c.args.out.now c.args.at (c.args.b ∷ []) = let a = c.args in elim c.if-at-out.branch [ then-at-out w ↦ w.out-is ∙ at_set a.out.now a.at a.b | else-at-out w ↦ w.out-is ∙ sym (at-past a.out.now a.at (a.b ∷ []) w.if-at-out.false) ] in
    ap length written ∙ length_at _ _ _

pub returns : goal.returns
returns c =
    let written : c.if-at-out.out ≡ over_at c.args.out.now c.args.at (c.args.b ∷ []) = let a = c.args in elim c.if-at-out.branch [ then-at-out w ↦ w.out-is ∙ at_set a.out.now a.at a.b | else-at-out w ↦ w.out-is ∙ sym (at-past a.out.now a.at (a.b ∷ []) w.if-at-out.false) ] in
    record { place = refl; bytes = written }
