-- The first line, then the others.
use Rattle.std.proofs.lemmas.Slice.{between_is}
use native.Mathlib.Omega.{arith}
use mathlib.Core.Path.{sym, ◌∙◌}
use Rattle.keys.specs.LineRead.{read-line, read_none}
use Rattle.keys.proofs.LineScanLaws.{begun-none}
use Rattle.keys.proofs.LineParts.{name-bounds}
use Rattle.keys.proofs.LoadWhole.{no-first, up, first-keyed, first-T, first-added}
use Rattle.keys.proofs.load.load.Goals as goal

pub line_at-requires : goal.line_at-requires
line_at-requires c = (omega arith, begun-none c.args.text.now 0)

pub refusal-requires : goal.refusal-requires
refusal-requires c = let l = read-line {text = c.args.text.now} {at = 0} c.in-Some.is c.line_at.ensures in (omega arith, up l, first-keyed l c.if-line.true)

pub refusal-requires-then-same_bytes : goal.refusal-requires-then-same_bytes
refusal-requires-then-same_bytes c = let l = read-line {text = c.args.text.now} {at = 0} c.in-Some.is c.line_at.ensures in (omega arith, up l, first-T l (simp between_is at c.same_bytes.ensures) c.if-same_bytes.true)

pub put_path-requires : goal.put_path-requires
put_path-requires c = let b = name-bounds (read-line {text = c.args.text.now} {at = 0} c.in-Some.is c.line_at.ensures) in (omega (arith, c.requires.1), b.0, omega (arith, c.requires.0), omega arith, omega arith)

pub add_lines-requires : goal.add_lines-requires
add_lines-requires c = first-added (read-line {text = c.args.text.now} {at = 0} c.in-Some.is c.line_at.ensures) c.if-line.false (sym (simp between_is at c.same_bytes.ensures) ∙ c.if-same_bytes.false) c.args.table.now c.put_path.ensures c.requires.1 c.requires.0

pub returns-in_default : goal.returns-in_default
returns-in_default c = no-first c.args.text.now (read_none c.args.text.now 0 c.in_default.is c.line_at.ensures)
