-- `legality::hash::fold_plain` meets its contract. The loop's invariant: folding in the bytes left gives what all of them give. Assumes nothing.
use Prim.Native.Nat.{◌+◌}
use native.Mathlib.Omega.{arith}
use mathlib.Core.Path.{refl, sym, ◌∙◌}
use lib.Seq.{slice}
use Rattle.versions.specs.Hashes.{folded-small}
use Rattle.legality.specs.Folded.{fold-part}
use Rattle.legality.proofs.hash.fold_plain.Goals as goal

pub loop-i-init : goal.loop-i-init
loop-i-init c = (omega arith, omega arith, refl)

pub overflow_sub-e : goal.overflow_sub-e
overflow_sub-e c = omega arith

pub fold_block-h-requires : goal.fold_block-h-requires
fold_block-h-requires c = (omega arith, omega arith)

pub overflow_add-i : goal.overflow_add-i
overflow_add-i c = omega arith

pub loop-i-smaller : goal.loop-i-smaller
loop-i-smaller c = omega arith

pub loop-i-preserved : goal.loop-i-preserved
loop-i-preserved c = let a = c.args in
    let i = c.loop-i.i in
    let h = c.loop-i.h in
    rw c.fold_block-h.ensures (omega arith, folded-small h (slice i (i + 16) a.src.now) c.loop-i.invariant.1, c.loop-i.invariant.2 ∙ fold-part a.src.now i (i + 16) a.e h (omega arith) (omega arith) c.requires.1)

pub fold_bytes-requires : goal.fold_bytes-requires
fold_bytes-requires c = (c.loop-i.invariant.0, c.requires.1, c.loop-i.invariant.1)

pub returns : goal.returns
returns c = c.fold_bytes.ensures ∙ sym c.loop-i.invariant.2
