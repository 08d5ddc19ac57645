use Rattle.marks.specs.ChangeLaws.{entry-made}
use Rattle.marks.proofs.change.named_mark.Goals as goal

pub returns : goal.returns
returns c = entry-made c.args.name.now c.args.version c.copy_from_slice.new.self c.copy_from_slice.ensures.after
