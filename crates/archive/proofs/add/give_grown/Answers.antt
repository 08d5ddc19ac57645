-- `give_grown` meets its contract.
use Rattle.archive.specs.AddCall.{add-11, not_last, add-stored}
use Rattle.archive.proofs.add.give_grown.Goals as goal

pub returns-then-n-eq999 : goal.returns-then-n-eq999
returns-then-n-eq999 c K f v a = add-11 K c.args.n v f c.args.out.now c.if-n-eq999.true

pub give_short-requires : goal.give_short-requires
give_short-requires c = let h = c.requires in (h.0, not_last h.0 c.if-n-eq999.false, h.1, h.2)

pub returns-then-version-le1024 : goal.returns-then-version-le1024
returns-then-version-le1024 c K f v a = add-stored K c.args.n v f c.args.out.now c.if-n-eq999.false (c.give_short.ensures K f v a)

pub give_long-requires : goal.give_long-requires
give_long-requires c = let h = c.requires in (h.0, not_last h.0 c.if-n-eq999.false, h.1, h.2)

pub returns : goal.returns
returns c K f v a = add-stored K c.args.n v f c.args.out.now c.if-n-eq999.false (c.give_long.ensures K f v a)
