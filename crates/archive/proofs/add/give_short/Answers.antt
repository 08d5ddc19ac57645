-- `give_short` meets its contract.
use Rattle.versions.specs.Walk.{add_forest}
use Rattle.archive.proofs.add.give_short.Goals as goal

pub write_grown-size-requires : goal.write_grown-size-requires
write_grown-size-requires c = c.requires

pub give_long-requires : goal.give_long-requires
give_long-requires c = c.requires

pub returns-then-size-gt1024 : goal.returns-then-size-gt1024
returns-then-size-gt1024 c = c.give_long.ensures

pub returns : goal.returns
returns c K f v a = c.give_draft.ensures (add_forest K c.args.n v f) (c.write_grown-size.ensures K f v a)
