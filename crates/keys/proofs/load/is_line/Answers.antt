-- The test of the cells.
use native.Mathlib.Omega.{arith}
use mathlib.Core.Path.{sym}
use Rattle.keys.proofs.LoadSteps.{line-out, line-root, line-later}
use Rattle.keys.proofs.load.is_line.Goals as goal

pub returns-then-place-keys : goal.returns-then-place-keys
returns-then-place-keys c = sym (line-out c.args.keys.now.table.now c.args.keys.now.paths c.args.place (omega arith))

pub returns-then-parent-place : goal.returns-then-parent-place
returns-then-parent-place c = sym (line-root c.args.keys.now.table.now c.args.keys.now.paths c.args.place (omega arith) (omega arith))

pub returns : goal.returns
returns c = sym (line-later c.args.keys.now.table.now c.args.keys.now.paths c.args.place (omega arith) (omega arith))
