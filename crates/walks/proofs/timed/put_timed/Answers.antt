-- `put_timed` meets its contract: the tags, and the nodes between them.
use native.Mathlib.Omega.{arith}
use Rattle.xml.specs.Bytes.{bytes}
use Rattle.xml.specs.TapeLaws.{length-write}
use Rattle.timestamp.specs.Set.{set_of}
use Rattle.timestamp.specs.Listed.{text_of}
use Rattle.versions.specs.TimedLaws.{wrote-timed}
use Rattle.walks.proofs.timed.put_timed.Goals as goal

pub put_word-requires : goal.put_word-requires
put_word-requires c = (omega arith, omega (arith, c.put_times-inside.ensures.1, (c.write_at-close.ensures c.requires.0.forest c.requires.0.tape).place, length-write c.requires.0.tape))

pub returns : goal.returns
unfolding bytes
returns c = (
  λ f h. wrote-timed (text_of (set_of c.args.set.words)) f c.put_times-inside.ensures.0 (c.write_at-close.ensures f h) c.put_word.ensures,
  omega (arith, c.put_times-inside.ensures.1, (c.write_at-close.ensures c.requires.0.forest c.requires.0.tape).place, length-write c.requires.0.tape, c.put_word.ensures.place),
)
