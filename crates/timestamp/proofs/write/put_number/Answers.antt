-- `timestamp::write::put_number` meets its contract.
use native.Mathlib.Omega.{arith}
use Rattle.xml.specs.OverLaws.{wrote_then}
use Rattle.timestamp.specs.Write.{decimal-one, decimal-two, decimal-three}
use Rattle.timestamp.proofs.write.put_number.Goals as goal

pub returns-then-n-lt10 : goal.returns-then-n-lt10
returns-then-n-lt10 c = rw (decimal-one c.args.n (omega arith) c.if-n-lt10.true) c.put_digit.ensures

pub returns-then-n-lt100 : goal.returns-then-n-lt100
returns-then-n-lt100 c = rw (decimal-two c.args.n (omega arith) c.if-n-lt100.true) (wrote_then c.put_digit-i.ensures c.put_digit-then-n-lt100.ensures)

pub returns : goal.returns
returns c = rw (decimal-three c.args.n (omega arith) (omega arith)) (wrote_then (wrote_then c.put_digit-i-2.ensures c.put_digit-j.ensures) c.put_digit-2.ensures)
