-- `adding::timed::put_grown` meets its contract: the tag with the changed text, which is that of the set with one version more.
use Prim.Native.Nat.{ℕ, ◌+◌}
use native.Mathlib.Omega.{arith}
use mathlib.Core.Path.{◌≡◌}
use mathlib.Core.Bool.{Bool}
use mathlib.Core.List.{◌++◌}
use lib.Seq.{slice, length-slice}
use Rattle.timestamp.specs.Set.{adding}
use Rattle.timestamp.specs.Listed.{text_of}
use Rattle.timestamp.specs.Parse.{accepted, parsed}
use Rattle.timestamp.specs.Change.{tail_text, Changes}
use Rattle.versions.specs.TimedLaws.{part_slice, change-short, changed-text}
use Rattle.versions.specs.BackText.{times-room}
use Rattle.adding.proofs.timed.put_grown.Goals as goal

pub grown-change-requires : goal.grown-change-requires
grown-change-requires c = rw (part_slice c.args.a c.args.e c.args.src.now c.requires.0) (c.requires.3, c.requires.4)

pub put_changed-requires : goal.put_changed-requires
put_changed-requires c =
    let change : Changes (slice c.args.a c.args.e c.args.src.now) (adding (c.args.n + 1)) (c.args.n + 1) c.grown-change.result.to c.grown-change.result.tail = rw (part_slice c.args.a c.args.e c.args.src.now c.requires.0) at c.grown-change.ensures in (
      omega (arith, change.inside, length-slice c.args.a c.args.e c.args.src.now c.requires.1),
      change-short (slice c.args.a c.args.e c.args.src.now) c.requires.3.s c.requires.3.is change,
      omega arith,
      omega arith,
      omega arith,
    )

pub returns : goal.returns
returns c =
    let change : Changes (slice c.args.a c.args.e c.args.src.now) (adding (c.args.n + 1)) (c.args.n + 1) c.grown-change.result.to c.grown-change.result.tail = rw (part_slice c.args.a c.args.e c.args.src.now c.requires.0) at c.grown-change.ensures in
    let becomes : (s : ℕ → Bool) → parsed (slice c.args.a c.args.e c.args.src.now) ≡ accepted s → text_of (adding (c.args.n + 1) s) ≡ slice c.args.a (c.args.a + c.grown-change.result.to) c.args.src.now ++ tail_text c.grown-change.result.tail (c.args.n + 1) = λ s f. changed-text c.args.a c.args.e c.args.src.now s c.requires.0 c.requires.1 f (change) in (
      λ s f. rw (← becomes s f) at c.put_changed.ensures,
      times-room (adding (c.args.n + 1) c.requires.3.s) (rw (← becomes c.requires.3.s c.requires.3.is) at c.put_changed.ensures),
    )
