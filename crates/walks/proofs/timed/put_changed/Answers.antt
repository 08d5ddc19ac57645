-- `put_changed` meets its contract: four pieces one after the other.
use Rattle.std.proofs.lemmas.Slice.{between_is}
use Rattle.xml.specs.Bytes.{bytes}
use Rattle.xml.specs.OverLaws.{wrote_then}
use Rattle.xml.specs.TapeLaws.{opening}
use Rattle.walks.proofs.timed.put_changed.Goals as goal

pub returns : goal.returns
unfolding bytes opening
returns c = wrote_then (wrote_then c.put_word-times.ensures (wrote_then (simp between_is at c.put_word-tail.ensures) c.put_tail-last.ensures)) c.put_word.ensures
