-- `put_times` meets its contract: three pieces one after the other.
use native.Mathlib.Omega.{arith}
use Rattle.xml.specs.Bytes.{bytes}
use Rattle.timestamp.specs.Set.{set_of}
use Rattle.timestamp.proofs.LongestLaws.{text-short}
use Rattle.versions.specs.TimedLaws.{wrote-times}
use Rattle.walks.proofs.timed.put_times.Goals as goal

pub put_word-requires : goal.put_word-requires
put_word-requires c = (omega arith, omega (arith, c.put_word-times.ensures.place, c.put_text-last.ensures.place, text-short (set_of c.args.set.words)))

pub returns : goal.returns
unfolding bytes
returns c = wrote-times (set_of c.args.set.words) c.put_word-times.ensures c.put_text-last.ensures c.put_word.ensures
