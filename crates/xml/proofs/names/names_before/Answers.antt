-- `xml::names::names_before` meets its contract: the names below `lo` come before the name, those from `hi` on do not. Assumes nothing.
use native.Mathlib.Omega.{arith}
use mathlib.Core.Path.{◌≡◌, sym, ◌∙◌}
use Rattle.xml.specs.NameCellLaws.{parted-all, parted-up, parted-down}
use Rattle.xml.proofs.names.names_before.Goals as goal

pub loop-lo-init : goal.loop-lo-init
loop-lo-init c = parted-all

pub overflow_sub-mid : goal.overflow_sub-mid
overflow_sub-mid c = omega arith

pub overflow_add-mid : goal.overflow_add-mid
overflow_add-mid c = omega arith

pub overflow_add-base : goal.overflow_add-base
overflow_add-base c = omega (arith, c.requires.names.room)

pub offset_bounds-cells-base : goal.offset_bounds-cells-base
offset_bounds-cells-base c = omega (arith, c.requires.names.room)

pub bounds-cells-base : goal.bounds-cells-base
bounds-cells-base c = omega (arith, c.requires.names.room)

pub cell_precedes-requires : goal.cell_precedes-requires
cell_precedes-requires c = c.requires.names.in-text _ (omega arith)

pub overflow_add-lo : goal.overflow_add-lo
overflow_add-lo c = omega arith

pub loop-lo-smaller-then-cell_precedes : goal.loop-lo-smaller-then-cell_precedes
loop-lo-smaller-then-cell_precedes c = omega arith

pub loop-lo-preserved-then-cell_precedes : goal.loop-lo-preserved-then-cell_precedes
loop-lo-preserved-then-cell_precedes c = parted-up c.requires.names c.loop-lo.invariant (omega arith) (omega arith) (sym c.cell_precedes.ensures ∙ c.if-cell_precedes.true)

pub loop-lo-smaller : goal.loop-lo-smaller
loop-lo-smaller c = omega arith

pub loop-lo-preserved : goal.loop-lo-preserved
loop-lo-preserved c = parted-down c.requires.names c.loop-lo.invariant (omega arith) (omega arith) (sym c.cell_precedes.ensures ∙ c.if-cell_precedes.false)

pub returns : goal.returns
returns c = let done : c.loop-lo.hi ≡ c.loop-lo.lo = omega arith in
    rw done at c.loop-lo.invariant
