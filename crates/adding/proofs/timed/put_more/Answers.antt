-- `adding::timed::put_more` meets its contract: the tags, and the nodes between them. Assumes nothing.
use Prim.Native.Nat.{◌+◌}
use native.Mathlib.Omega.{arith}
use Rattle.xml.specs.Bytes.{bytes}
use Rattle.xml.specs.TapeLaws.{length-write}
use Rattle.timestamp.specs.Set.{adding}
use Rattle.timestamp.specs.Listed.{text_of}
use Rattle.versions.specs.TimedLaws.{wrote-timed}
use Rattle.adding.proofs.timed.put_more.Goals as goal

pub put_grown-inside-requires : goal.put_grown-inside-requires
put_grown-inside-requires c = (c.requires.0, c.requires.1, c.requires.2, c.requires.3, c.requires.4, c.requires.7)

pub write_at-close-requires : goal.write_at-close-requires
write_at-close-requires c = (c.requires.5, c.requires.6, omega (arith, c.put_grown-inside.ensures.1, c.requires.7))

pub put_word-requires : goal.put_word-requires
put_word-requires c = (omega arith, omega (arith, c.put_grown-inside.ensures.1, (c.write_at-close.ensures c.requires.5.forest c.requires.5.tape).place, length-write c.requires.5.tape, c.requires.6, c.requires.7))

pub returns : goal.returns
unfolding bytes
returns c = ((λ s f d h. wrote-timed (text_of (adding (c.args.n + 1) s)) f (c.put_grown-inside.ensures.0 s d) (c.write_at-close.ensures f h) c.put_word.ensures), omega (arith, c.put_grown-inside.ensures.1, (c.write_at-close.ensures c.requires.5.forest c.requires.5.tape).place, length-write c.requires.5.tape, c.put_word.ensures.place))
