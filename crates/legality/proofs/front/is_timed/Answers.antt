-- `archive::front::is_timed` meets its contract: one return a kind. Assumes nothing.
use Rattle.std.proofs.lemmas.Slice.{between_is}
use mathlib.Core.Path.{sym, ◌∙◌}
use lib.Seq.{slice}
use Rattle.xml.specs.Bytes.{bytes}
use Rattle.versions.specs.Untimed.{named, timed-two, timed-one, timed-none}
use Rattle.legality.proofs.front.is_timed.Goals as goal

pub returns-then-kind-eq2 : goal.returns-then-kind-eq2
returns-then-kind-eq2 c = sym (timed-two _ _ c.if-kind-eq2.true)

pub returns-then-kind-eq1 : goal.returns-then-kind-eq1
unfolding named bytes
returns-then-kind-eq1 c = (simp between_is at c.same_bytes.ensures) ∙ sym (timed-one c.args.kind (slice c.args.a c.args.e c.args.src.now) c.if-kind-eq1.true)

pub returns : goal.returns
returns c = sym (timed-none _ _ c.if-kind-eq2.false c.if-kind-eq1.false)
