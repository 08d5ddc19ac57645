-- `write_old` meets its contract. Assumes nothing.
use native.Mathlib.Omega.{arith}
use mathlib.Core.Path.{◌≡◌, refl}
use Rattle.xml.specs.Forest.{end, stamp}
use Rattle.xml.specs.TapeLaws.{front, length-write}
use Rattle.timestamp.specs.Times.{write_times}
use Rattle.versions.specs.AddParts.{sibling, old_part}
use Rattle.versions.specs.TimedLaws.{says-text}
use Rattle.versions.specs.AddWalk.{timed-by, bare-by}
use Rattle.adding.proofs.sibling.write_old.Goals as goal

pub view-v-requires : goal.view-v-requires
view-v-requires c = (front c.requires.1.tape c.requires.0).held

pub write_at-requires : goal.write_at-requires
write_at-requires c = rw c.view-v.ensures (c.requires.1, c.requires.2, omega arith)

pub returns-then-v-eq2 : goal.returns-then-v-eq2
returns-then-v-eq2 c = let e = c.view-v.ensures in
    let w = rw e at c.write_at.ensures in (
      (λ n t o m k h a x. rw (timed-by a (λ z. old_part t z m k ≡ sibling z m k) (rw e at c.if-v-eq2.true) (λ s d. refl)) (w (sibling o m k) a.here)),
      omega (arith, (w c.requires.1.forest c.requires.1.tape).place, length-write c.requires.1.tape),
    )

pub put_within-requires : goal.put_within-requires
put_within-requires c = rw c.view-v.ensures (c.requires.3, c.requires.4, c.requires.5, c.requires.1, c.requires.2, omega arith)

pub returns : goal.returns
returns c = let e = c.view-v.ensures in (
  (λ n t o m k h a x. rw (bare-by a (λ z. old_part t z m k ≡ stamp (write_times t) (sibling z m k) end) (rw e at c.if-v-eq2.false) refl)
      ((rw (e, says-text x h) at c.put_within.ensures.0) (sibling o m k) a.here)),
  rw e at c.put_within.ensures.1,
)
