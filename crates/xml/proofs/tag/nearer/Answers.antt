-- `xml::tag::nearer` meets its contract: a law for each return. Assumes nothing.
use Rattle.std.proofs.lemmas.Slice.{between_is}
use Prim.Native.Nat.{◌+◌}
use mathlib.Core.Path.{sym, ◌∙◌}
use native.Mathlib.Omega.{arith}
use lib.ListN.{drop, length-drop}
use lib.Seq.{slice}
use Rattle.xml.specs.UsedNames.{until-fits}
use Rattle.xml.specs.NextPart.{nearer-before, nearer-alone, nearer-this, nearer-best}
use Rattle.xml.proofs.tag.nearer.Goals as goal

pub returns-then-not-precedes : goal.returns-then-not-precedes
returns-then-not-precedes c = let a = c.args in nearer-before a.s.now (slice a.a a.e a.s.now) a.best a.i (slice (a.i + 1) a.equals a.s.now) (sym (simp between_is at c.precedes.ensures) ∙ c.if-not-precedes.true)

pub returns-then-best-s : goal.returns-then-best-s
returns-then-best-s c = let a = c.args in nearer-alone a.s.now (slice a.a a.e a.s.now) a.best a.i (slice (a.i + 1) a.equals a.s.now) (sym (simp between_is at c.precedes.ensures) ∙ c.if-not-precedes.false) c.if-best-s.true

pub slice_bounds-precedes-end-4 : goal.slice_bounds-precedes-end-4
slice_bounds-precedes-end-4 c = let a = c.args in
    omega (arith, c.until_byte.ensures.0, until-fits 61 (drop (a.best + 1) a.s.now), length-drop (a.best + 1) a.s.now, c.if-best-s.false, c.requires.1)

pub returns-then-precedes : goal.returns-then-precedes
returns-then-precedes c = let a = c.args in nearer-this a.s.now (slice a.a a.e a.s.now) a.best a.i (slice (a.i + 1) a.equals a.s.now) c.until_byte.result (sym (simp between_is at c.precedes.ensures) ∙ c.if-not-precedes.false) c.if-best-s.false c.until_byte.ensures.0 (sym (simp between_is at c.precedes-2.ensures) ∙ c.if-precedes.true)

pub returns : goal.returns
returns c = let a = c.args in nearer-best a.s.now (slice a.a a.e a.s.now) a.best a.i (slice (a.i + 1) a.equals a.s.now) c.until_byte.result (sym (simp between_is at c.precedes.ensures) ∙ c.if-not-precedes.false) c.if-best-s.false c.until_byte.ensures.0 (sym (simp between_is at c.precedes-2.ensures) ∙ c.if-precedes.false)
