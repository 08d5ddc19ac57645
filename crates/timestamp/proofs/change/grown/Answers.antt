-- `timestamp::change::grown` meets its contract.
use native.Mathlib.Omega.{arith}
use Rattle.timestamp.specs.Place.{place-begins, run-there}
use Rattle.timestamp.specs.Change.{last-low, read-gap, read_one, read_more}
use Rattle.timestamp.proofs.change.grown.Goals as goal

pub unwrap-run-requires : goal.unwrap-run-requires
unwrap-run-requires c = run-there (place-begins c.args.text.now c.requires.0.s c.requires.0.is c.last_start-at.result c.last_start-at.ensures.comma) _ c.run_at.ensures

pub returns-then-run-n : goal.returns-then-run-n
returns-then-run-n c = let r = rw c.unwrap-run.ensures at c.run_at.ensures in read-gap c.requires.0 c.last_start-at.ensures r.1 c.requires.1 (omega arith)

pub returns-then-run : goal.returns-then-run
returns-then-run c = let r = rw c.unwrap-run.ensures at c.run_at.ensures in
    read_one c.requires.0 c.last_start-at.ensures r.1 c.requires.1 (omega (arith, c.if-run-n.false)) c.if-run.true

pub size-requires : goal.size-requires
size-requires c = let r = rw c.unwrap-run.ensures at c.run_at.ensures in last-low c.requires.0 c.last_start-at.ensures r.1 c.requires.1

pub returns : goal.returns
returns c = let r = rw c.unwrap-run.ensures at c.run_at.ensures in
    read_more c.requires.0 c.last_start-at.ensures r.1 c.requires.1 (omega (arith, c.if-run-n.false)) c.if-run.false c.size.result c.size.ensures.0
