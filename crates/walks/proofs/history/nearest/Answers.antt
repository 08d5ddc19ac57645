-- `nearest` meets its contract: the rest of the address, in the element that the walk has come to, gives the history.
use native.Mathlib.Omega.{arith}
use Rattle.xml.specs.Tape.{head_at, start_in, end_in}
use Rattle.versions.specs.TimedLaws.{part_slice}
use Rattle.walks.specs.HistoryParts.{element-most}
use Rattle.walks.specs.HistoryWalk.{top, way-start, way-sought, way-missing, way-held, way-within, way_on, way-done}
use Rattle.walks.proofs.history.nearest.Goals as goal

pub view-top-requires : goal.view-top-requires
view-top-requires c = (top c.requires.tape c.requires.legal).held

pub slice_bounds-around-end : goal.slice_bounds-around-end
slice_bounds-around-end c = rw c.view-top.ensures (top c.requires.tape c.requires.legal).within

pub loop-i-init : goal.loop-i-init
loop-i-init c = rw (c.view-top.ensures, part_slice (start_in (head_at c.args.doc.now.tape.now 0)) (end_in (head_at c.args.doc.now.tape.now 0)) c.args.doc.now.src.now (omega arith)) (way-start c.requires)

pub find_step-requires : goal.find_step-requires
find_step-requires c = (way-sought c.loop-i.invariant c.loop-i-test.true, omega (arith, c.loop-i-test.true, c.requires.parsed.few))

pub returns-in_err-p : goal.returns-in_err-p
returns-in_err-p c = rw c.from_residual.ensures (way-missing c.loop-i.invariant c.loop-i-test.true c.in_err-p.ensures)

pub nearer-around-requires : goal.nearer-around-requires
nearer-around-requires c = (way-held c.loop-i.invariant c.loop-i-test.true c.in_ok-p.ensures, way-within c.loop-i.invariant c.loop-i-test.true c.in_ok-p.ensures)

pub element_at-lo-requires : goal.element_at-lo-requires
element_at-lo-requires c = way-held c.loop-i.invariant c.loop-i-test.true c.in_ok-p.ensures

pub overflow_add-lo : goal.overflow_add-lo
overflow_add-lo c = rw c.element_at-lo.ensures (omega (arith, element-most c.args.doc.now.tape.now c.in_ok-p.p, way-held c.loop-i.invariant c.loop-i-test.true c.in_ok-p.ensures))

pub view-hi-requires : goal.view-hi-requires
view-hi-requires c = way-held c.loop-i.invariant c.loop-i-test.true c.in_ok-p.ensures

pub loop-i-preserved : goal.loop-i-preserved
loop-i-preserved c = rw (c.nearer-around.ensures, c.element_at-lo.ensures, c.view-hi.ensures) (way_on c.loop-i.invariant c.loop-i-test.true c.in_ok-p.ensures)

pub returns : goal.returns
returns c = way-done c.loop-i.invariant (omega (arith, c.loop-i-test.false))
