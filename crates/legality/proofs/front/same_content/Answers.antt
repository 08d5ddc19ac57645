-- `legality::front::same_content` meets its contract: forests with different hashes differ. Assumes nothing.
use mathlib.Core.Path.{sym}
use Rattle.versions.specs.Hashes.{hashes-apart}
use Rattle.legality.proofs.front.same_content.Goals as goal

pub returns-then-x-h : goal.returns-then-x-h
returns-then-x-h c k g t u = sym (hashes-apart k g _ _ (c.requires.2 k t) (c.requires.3 g u) c.if-x-h.true)
