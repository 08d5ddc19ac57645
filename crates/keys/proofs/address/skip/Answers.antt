-- `skip` meets its contract: one law a return.
use Rattle.std.proofs.lemmas.Slice.{between_is}
use lib.ListN.{length}
use mathlib.Core.Path.{refl}
use native.Mathlib.Omega.{arith}
use mathlib.Core.Path.{sym, ◌∙◌}
use Rattle.keys.specs.AddressSkips.{skip-out, skip-short, skip-other, skip-word}
use Rattle.keys.proofs.address.skip.Goals as goal

pub returns-then-s-at : goal.returns-then-s-at
returns-then-s-at c = let a = c.args in
    let s = a.s.now in
    skip-out s a.at a.word.now (omega arith) c.if-s-at.true

pub returns-then-s-at-2 : goal.returns-then-s-at-2
returns-then-s-at-2 c = let a = c.args in
    let s = a.s.now in
    skip-short s a.at a.word.now (length a.word.now) refl (omega arith) c.if-s-at-2.true

pub returns-then-not-same_bytes : goal.returns-then-not-same_bytes
returns-then-not-same_bytes c = let a = c.args in
    let s = a.s.now in
    skip-other s a.at a.word.now (length a.word.now) refl (omega arith) (sym (simp between_is at c.same_bytes.ensures) ∙ c.if-not-same_bytes.true)

pub returns : goal.returns
returns c = let a = c.args in
    let s = a.s.now in
    skip-word s a.at a.word.now (length a.word.now) refl (omega arith) (sym (simp between_is at c.same_bytes.ensures) ∙ c.if-not-same_bytes.false)
