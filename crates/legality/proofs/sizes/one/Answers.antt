-- `archive::sizes::one` meets its contract. Assumes nothing.
use Rattle.std.proofs.lemmas.Slice.{between_is}
use mathlib.Core.Path.{sym, ◌∙◌}
use lib.Seq.{slice}
use Rattle.xml.specs.Bytes.{bytes}
use Rattle.legality.specs.Measured.{one_none, one-some}
use Rattle.legality.proofs.sizes.one.Goals as goal

pub returns-then-same_bytes : goal.returns-then-same_bytes
unfolding bytes
returns-then-same_bytes c = sym (one_none (slice c.args.a c.args.e c.args.src.now) (sym (simp between_is at c.same_bytes.ensures) ∙ c.if-same_bytes.true))

pub returns : goal.returns
unfolding bytes
returns c = sym (one-some (slice c.args.a c.args.e c.args.src.now) (sym (simp between_is at c.same_bytes.ensures) ∙ c.if-same_bytes.false))
