-- `xml::tag::put_attr` meets its contract: four pieces, one after the other. Assumes nothing.
use Rattle.std.proofs.lemmas.List.{length-take}
use Prim.Native.Nat.{ℕ, ◌+◌, ◌^◌, ◌<◌}
use native.Mathlib.Omega.{arith}
use lib.Seq.{slice, length-slice}
use Rattle.std.proofs.lemmas.Slice.{between_is}
use Rattle.xml.specs.OverLaws.{wrote_then}
use Rattle.xml.specs.TagWritten.{part-text, length-quoted}
use Rattle.xml.proofs.tag.put_attr.Goals as goal

pub put-value-requires : goal.put-value-requires
put-value-requires c =
    let first : c.put_word-quote.result < 2 ^ 61 + 2 ^ 59 + 32768 = let a = c.args in let p = c.requires.0 in omega (arith, c.put_word-quote.ensures.place, length-slice a.i (a.p.equals + 1) a.s.now (omega (arith, p.valued, p.inside)), p.valued, p.inside, c.requires.1, c.requires.2) in
    omega (arith, first)

pub put_value-end-requires : goal.put_value-end-requires
put_value-end-requires c =
    let first : c.put_word-quote.result < 2 ^ 61 + 2 ^ 59 + 32768 = let a = c.args in let p = c.requires.0 in omega (arith, c.put_word-quote.ensures.place, length-slice a.i (a.p.equals + 1) a.s.now (omega (arith, p.valued, p.inside)), p.valued, p.inside, c.requires.1, c.requires.2) in
    let p = c.requires.0 in (omega (arith, length-take {A = ℕ}, p.inside, c.requires.1), omega (arith, first, c.put-value.ensures.place))

pub put-requires : goal.put-requires
put-requires c =
    let first : c.put_word-quote.result < 2 ^ 61 + 2 ^ 59 + 32768 = let a = c.args in let p = c.requires.0 in omega (arith, c.put_word-quote.ensures.place, length-slice a.i (a.p.equals + 1) a.s.now (omega (arith, p.valued, p.inside)), p.valued, p.inside, c.requires.1, c.requires.2) in
    let a = c.args in
    let p = c.requires.0 in
    omega (arith, first, c.put-value.ensures.place, (simp between_is at c.put_value-end.ensures).place, length-quoted (slice (a.p.equals + 2) a.p.end a.s.now), length-slice (a.p.equals + 2) a.p.end a.s.now (omega (arith, p.inside)), p.inside, c.requires.1)

pub returns : goal.returns
returns c = rw (part-text c.requires.0) (wrote_then (wrote_then (wrote_then (simp between_is at c.put_word-quote.ensures) c.put-value.ensures) (simp between_is at c.put_value-end.ensures)) c.put.ensures)
