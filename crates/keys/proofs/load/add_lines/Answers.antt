-- The cells are the table of the lines so far, which keep the rules.
use native.Mathlib.Omega.{arith}
use mathlib.Core.Path.{sym, ◌∙◌}
use Rattle.keys.specs.LineRead.{read-line, read_none}
use Rattle.keys.proofs.NotationPass.{pass-goes, pass-fails}
use Rattle.keys.proofs.ContextLaws.{known-begun}
use Rattle.keys.proofs.LoadWhole.{built-all, few-lines, add-stop, add-next}
use Rattle.keys.proofs.load.add_lines.Goals as goal

pub loop-at-init : goal.loop-at-init
loop-at-init c = c.requires

pub known_context-known-requires : goal.known_context-known-requires
known_context-known-requires c = (c.loop-at.invariant.last-is.parts, c.loop-at.invariant.last-is.short, omega arith)

pub line_at-requires : goal.line_at-requires
line_at-requires c = (omega arith, known-begun (c.known_context-known.ensures c.loop-at.invariant.upto.done c.loop-at.invariant.last-is))

pub returns-in_default : goal.returns-in_default
returns-in_default c = pass-fails c.args.text.now c.loop-at.at c.loop-at.invariant.upto c.loop-at-test.true (read_none c.args.text.now c.loop-at.at c.in_default.is c.line_at.ensures)

pub context_place-here-requires : goal.context_place-here-requires
context_place-here-requires c = let b = c.loop-at.invariant in
    record {
      keys = b.upto.done;
      table = b.table;
      known_is = c.known_context-known.ensures b.upto.done b.last-is;
      later = b.later;
      name = _;
      names = _;
      line = read-line c.in-Some.is c.line_at.ensures;
    }

pub add_line-requires : goal.add_line-requires
add_line-requires c = record { last = _; built = c.loop-at.invariant; line = read-line c.in-Some.is c.line_at.ensures; here-is = c.context_place-here.ensures }

pub refusal-requires : goal.refusal-requires
refusal-requires c = let l = read-line c.in-Some.is c.line_at.ensures in (
  omega arith,
  pass-goes c.args.text.now c.loop-at.at c.loop-at.invariant.upto _ _ _ l,
  add-stop c.args.text.now c.add_line.new.table c.loop-at.lines c.in-Some.line.names _ c.in_default-add_line.is c.add_line.ensures,
)

pub kept-last-requires : goal.kept-last-requires
kept-last-requires c = omega (arith, c.loop-at.invariant.short)

pub overflow_add-at : goal.overflow_add-at
overflow_add-at c = let l = read-line c.in-Some.is c.line_at.ensures in omega (arith, l.within, c.loop-at.invariant.short)

pub overflow_add-lines : goal.overflow_add-lines
overflow_add-lines c = omega (arith, few-lines c.loop-at.invariant)

pub loop-at-smaller : goal.loop-at-smaller
loop-at-smaller c = let l = read-line c.in-Some.is c.line_at.ensures in omega (arith, l.within, l.context-ends, l.name-ends, l.names-end)

pub loop-at-preserved : goal.loop-at-preserved
loop-at-preserved c = add-next c.args.text.now c.add_line.new.table c.loop-at.lines c.in-Some.line.names _ c.in-Some-add_line.is c.kept-last.ensures c.add_line.ensures

pub shape_of-table : goal.shape_of-table
shape_of-table c = c.loop-at.invariant.room ∙ sym c.requires.room

pub returns : goal.returns
returns c = built-all c.loop-at.invariant (omega arith)
