-- `open_set` meets its contract. Assumes nothing.
use native.Mathlib.Omega.{arith}
use mathlib.Core.Path.{◌≡◌, refl}
use mathlib.Core.Bool.{true, false}
use mathlib.Core.List.{[], ◌∷◌, ◌++◌}
use Rattle.xml.specs.TapeLaws.{opening}
use Rattle.xml.specs.OverLaws.{wrote_none}
use Rattle.timestamp.specs.Times.{write_times}
use Rattle.versions.specs.AddParts.{opened}
use Rattle.versions.specs.TimedLaws.{says-more}
use Rattle.versions.specs.AddWalk.{timed-by, bare-by}
use Rattle.adding.proofs.sibling.open_set.Goals as goal

pub view-v-requires : goal.view-v-requires
view-v-requires c = c.requires.0

pub put_grown-requires : goal.put_grown-requires
put_grown-requires c = (c.requires.1, c.requires.2, c.requires.3, c.requires.4, c.requires.5, c.requires.6)

pub returns-then-v-eq2 : goal.returns-then-v-eq2
returns-then-v-eq2 c = ((λ o m k t a x. rw (timed-by a (λ z. opened t z ≡ opening false (write_times (t ++ true ∷ []))) (rw c.view-v.ensures at c.if-v-eq2.true) (λ s d. refl)) (rw (says-more x c.requires.5) at (c.put_grown.ensures.0 x.set x.is))), c.put_grown.ensures.1)

pub returns : goal.returns
returns c = ((λ o m k t a x. rw (bare-by a (λ z. opened t z ≡ []) (rw c.view-v.ensures at c.if-v-eq2.false) refl) wrote_none), omega arith)
