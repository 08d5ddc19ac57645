-- `write_first` meets its contract.
use native.Mathlib.Omega.{arith}
use Rattle.xml.specs.Bytes.{bytes}
use Rattle.xml.specs.OverLaws.{wrote_then}
use Rattle.archive.proofs.found.write_first.Goals as goal

pub put_word-requires : goal.put_word-requires
put_word-requires c = omega (arith, c.put_word-inside.ensures.place, (c.write_at-close.ensures c.requires.forest c.requires.tape).place, c.requires.small)

pub returns : goal.returns
unfolding bytes
returns c = λ f h. wrote_then (wrote_then c.put_word-inside.ensures (c.write_at-close.ensures f h)) c.put_word.ensures
