use Rattle.std.proofs.Common.{◌∙◌}
use Rattle.marks.specs.JudgeLaws.{mark-eq}
use Rattle.marks.proofs.Mark.is_unused.Goals as goal

pub returns : goal.returns
returns c = c.eq.ensures ∙ mark-eq c.args.self.now
