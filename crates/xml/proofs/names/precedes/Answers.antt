-- `xml::names::precedes` meets its contract: `<` tells it. Assumes nothing.
use native.Mathlib.Omega.{arith}
use mathlib.Core.Path.{◌≡◌, refl}
use mathlib.Core.Bool.{Bool}
use Rattle.std.specs.Prelude.{Some}
use Rattle.std.specs.Ordering.{nat_cmp, is_lt, is_some_and}
use Rattle.std.specs.Cmp.Lexicographic.{slice_partial_cmp}
use Rattle.std.proofs.lemmas.Bool.Decides.{nat_tests}
use Rattle.std.proofs.lemmas.Cmp.{same_from_slice_cmp_tested}
use Rattle.xml.specs.Bytes.{Bytes}
use Rattle.xml.specs.Tags.{less}
use Rattle.xml.proofs.names.precedes.Goals as goal

-- the order of byte strings is that of their first bytes that differ
less-tested : (s t : Bytes) (r : Bool) → r ≡ is_some_and is_lt (slice_partial_cmp (λ x y. Some (nat_cmp x y)) s t) → r ≡ less s t
unfolding less
less-tested = same_from_slice_cmp_tested nat_cmp is_lt less refl (λ _ _. refl) (λ _ _. refl) (λ x y xs ys o h. grind (arith, nat_tests))

pub returns : goal.returns
returns c = less-tested c.args.a.now c.args.b.now c.lt.result c.lt.ensures
