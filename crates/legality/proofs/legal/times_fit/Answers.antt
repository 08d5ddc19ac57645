-- `times_fit` meets its contract: a text that is refused, or a set that is tested. A set within one of the versions 1 to n is one of these.
use Prim.Native.Nat.{ℕ}
use mathlib.Core.Path.{◌≡◌, sym, ◌∙◌}
use mathlib.Core.Bool.{Bool, true, not, ◌&&◌}
use lib.Dec.{leb}
use borrow.Author.Tests.{le-leb}
use Rattle.xml.specs.Truth.{by-test, and_both}
use Rattle.timestamp.specs.Set.{up_to, same_set, subset}
use Rattle.timestamp.specs.Tests.{subset-tells, subset-told}
use Rattle.timestamp.specs.Listed.{Only}
use Rattle.timestamp.specs.Parse.{read_as}
use Rattle.versions.specs.Branches.{outcome-refused, outcome-accepted}
use Rattle.versions.specs.LegalTimes.{stands, stands-out, stands-past, stands-in, read-refused, read-apart, read-accepted}
use Rattle.legality.proofs.legal.times_fit.Goals as goal

subset-only : (n : ℕ) (t s : ℕ → Bool) → Only n t → subset s t ≡ true → subset s (up_to n) ≡ true
subset-only n t s o e =
    subset-told s (up_to n) (λ v l q. let x = o v (subset-tells s t e v l q) in and_both (leb 1 v) (leb v n) (le-leb 1 v x.0) (le-leb v n x.1))

part-stands : (n : ℕ) (t s : ℕ → Bool) → Only n t → (subset s t && not (same_set s t)) ≡ stands n t s
part-stands n t s o =
    by-test (subset s t) (λ e. rw e (sym (stands-in n t s (subset-only n t s o e) e)))
    (λ e. rw e (by-test (subset s (up_to n)) (λ u. sym (stands-past n t s u e)) (λ u. sym (stands-out n t s u))))

pub parse_at-requires : goal.parse_at-requires
parse_at-requires c = (c.requires.0, c.requires.1, c.empty-own.ensures)

pub returns-then-not-parse_at : goal.returns-then-not-parse_at
returns-then-not-parse_at c n l o = read-refused n _ _ l o (outcome-refused (read_as c.parse_at.result _) _ c.parse_at.ensures.0 c.if-not-parse_at.true)

pub returns-then-not-is_part : goal.returns-then-not-is_part
returns-then-not-is_part c n l o = read-apart n _ _ l o c.parse_at.new.set (outcome-accepted (read_as c.parse_at.result _) _ c.parse_at.ensures.0 c.if-not-parse_at.false) (sym (part-stands n _ _ o) ∙ sym c.is_part.ensures ∙ c.if-not-is_part.true)

pub returns : goal.returns
returns c n l o = read-accepted n _ _ l o c.parse_at.new.set (outcome-accepted (read_as c.parse_at.result _) _ c.parse_at.ensures.0 c.if-not-parse_at.false) (sym (part-stands n _ _ o) ∙ sym c.is_part.ensures ∙ c.if-not-is_part.false)
