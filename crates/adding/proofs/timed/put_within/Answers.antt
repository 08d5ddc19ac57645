-- `adding::timed::put_within` meets its contract: the tags, and the nodes between them. Assumes nothing.
use Rattle.std.proofs.lemmas.Slice.{between_is}
use Rattle.std.proofs.lemmas.List.{length-take}
use Prim.Native.Nat.{ℕ, ◌+◌, ◌≤◌}
use native.Mathlib.Omega.{arith}
use lib.ListN.{length-append}
use lib.Seq.{slice}
use Rattle.xml.specs.Bytes.{bytes}
use Rattle.xml.specs.TapeLaws.{opening, length-write}
use Rattle.versions.specs.TimedLaws.{wrote-timed}
use Rattle.adding.proofs.timed.put_within.Goals as goal

pub put_open-inside-requires : goal.put_open-inside-requires
put_open-inside-requires c = (omega (arith, length-take {A = ℕ}, c.requires.2), omega (arith, c.requires.5))

pub write_at-close-requires : goal.write_at-close-requires
unfolding opening bytes
write_at-close-requires c =
    let opens : c.put_open-inside.result ≤ c.args.at + 3008 = omega (arith, simp length-append at c.put_open-inside.ensures.place, length-take {A = ℕ}, c.requires.2) in
    (c.requires.3, c.requires.4, omega (arith, opens, c.requires.5))

pub put_word-requires : goal.put_word-requires
unfolding opening bytes
put_word-requires c =
    let opens : c.put_open-inside.result ≤ c.args.at + 3008 = omega (arith, simp length-append at c.put_open-inside.ensures.place, length-take {A = ℕ}, c.requires.2) in
    (omega arith, omega (arith, opens, (c.write_at-close.ensures c.requires.3.forest c.requires.3.tape).place, length-write c.requires.3.tape, c.requires.4, c.requires.5))

pub returns : goal.returns
unfolding bytes opening
returns c =
    let opens : c.put_open-inside.result ≤ c.args.at + 3008 = omega (arith, simp length-append at c.put_open-inside.ensures.place, length-take {A = ℕ}, c.requires.2) in
    ((λ f h. wrote-timed (slice c.args.a c.args.e c.args.archive.now.src.now) f (simp between_is at c.put_open-inside.ensures) (c.write_at-close.ensures f h) c.put_word.ensures), omega (arith, opens, (c.write_at-close.ensures c.requires.3.forest c.requires.3.tape).place, length-write c.requires.3.tape, c.put_word.ensures.place))
