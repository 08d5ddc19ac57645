-- `close_set` meets its contract.
use native.Mathlib.Omega.{arith}
use Rattle.xml.specs.Bytes.{bytes}
use mathlib.Core.Path.{◌≡◌, refl}
use mathlib.Core.Bool.{false}
use mathlib.Core.List.{[]}
use Rattle.xml.specs.OverLaws.{wrote_none}
use Rattle.xml.specs.TapeLaws.{closing}
use Rattle.versions.specs.AddParts.{closed}
use Rattle.versions.specs.AddWalk.{timed-by, bare-by}
use Rattle.adding.proofs.sibling.close_set.Goals as goal

pub returns-then-v-eq2 : goal.returns-then-v-eq2
unfolding closing bytes
returns-then-v-eq2 c = (λ src o m k a. rw (timed-by a (λ z. closed z ≡ closing false []) (rw c.view_at-v.ensures at c.if-v-eq2.true) (λ s d. refl)) c.put_word.ensures, omega (arith, c.put_word.ensures.place))

pub returns : goal.returns
returns c = (λ src o m k a. rw (bare-by a (λ z. closed z ≡ []) (rw c.view_at-v.ensures at c.if-v-eq2.false) refl) wrote_none, omega arith)
