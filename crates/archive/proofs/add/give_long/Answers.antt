-- `give_long` meets its contract.
use Rattle.versions.specs.Walk.{add_forest}
use Rattle.archive.proofs.add.give_long.Goals as goal

pub write_grown-size-requires : goal.write_grown-size-requires
write_grown-size-requires c = c.requires

pub returns : goal.returns
returns c K f v a = c.give_draft.ensures (add_forest K c.args.n v f) (c.write_grown-size.ensures K f v a)
