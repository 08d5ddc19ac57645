-- `put_newest` meets its contract: the set of version n + 1 alone.
use Prim.Native.Nat.{◌+◌}
use mathlib.Core.Path.{◌∙◌, ap}
use Rattle.timestamp.specs.Set.{set_of, adding}
use Rattle.versions.specs.TimedLaws.{wrote-newest}
use Rattle.walks.proofs.timed.put_newest.Goals as goal

pub returns : goal.returns
returns c = (
  λ f h. wrote-newest c.args.n (set_of c.with-set.result.words) f c.requires.0 (c.with-set.ensures ∙ ap (adding (c.args.n + 1)) c.empty.ensures) (c.put_timed.ensures.0 f h),
  c.put_timed.ensures.1,
)
