-- `timestamp::write::put_long_part` meets its contract: the eight bytes are those of a comma and a run of numbers of three digits.
use Rattle.timestamp.specs.Write.{part-three}
use Rattle.timestamp.proofs.write.put_long_part.Goals as goal

pub returns : goal.returns
returns c = let e = part-three c.args.lo c.args.hi c.requires.0 c.requires.1 c.requires.2 c.digit.ensures c.digit-2.ensures c.digit-3.ensures c.digit-4.ensures c.digit-5.ensures c.digit-6.ensures in
    rw e c.put_word.ensures
