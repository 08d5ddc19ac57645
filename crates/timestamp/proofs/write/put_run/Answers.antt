-- `timestamp::write::put_run` meets its contract.
use native.Mathlib.Omega.{arith}
use mathlib.Core.List.{[], ◌∷◌, append_assoc}
use Rattle.timestamp.specs.Times.{decimal}
use Rattle.xml.specs.OverLaws.{wrote_then}
use Rattle.timestamp.specs.Write.{decimal-short, run-same, run_long}
use Rattle.timestamp.proofs.write.put_run.Goals as goal

pub returns-then-lo-hi : goal.returns-then-lo-hi
returns-then-lo-hi c = rw (run-same c.args.lo c.args.hi c.if-lo-hi.true) c.put_number-i.ensures

pub put_marked-requires : goal.put_marked-requires
put_marked-requires c = (omega arith, omega arith, omega (arith, c.put_number-i.ensures.place, (decimal-short c.args.lo (omega arith) (omega arith)).1))

pub returns : goal.returns
returns c = rw (run_long c.args.lo c.args.hi c.if-lo-hi.false, append_assoc (decimal c.args.lo) (45 ∷ []) (decimal c.args.hi)) (wrote_then c.put_number-i.ensures c.put_marked.ensures)
