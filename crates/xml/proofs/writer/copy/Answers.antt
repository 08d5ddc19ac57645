-- `xml::writer::copy` meets its contract: so many bytes were copied. Assumes nothing.
use Prim.Native.Nat.{◌+◌}
use native.Mathlib.Omega.{arith}
use mathlib.Core.Path.{◌≡◌, sym}
use lib.ListN.{length}
use lib.Seq.{slice_empty}
use Rattle.xml.specs.OverLaws.{at-nil}
use Rattle.xml.specs.WriteLaws.{part_step}
use Rattle.xml.proofs.writer.copy.Goals as goal

pub loop-i-init : goal.loop-i-init
loop-i-init c = sym (rw (slice_empty 0) (at-nil c.args.out.now c.args.from))

pub loop-i-preserved : goal.loop-i-preserved
loop-i-preserved c = let a = c.args in
    let w = c.loop-i in
    let z : 0 + w.i ≡ w.i = omega arith in
    let y : 0 + (w.i + 1) ≡ w.i + 1 = omega arith in
    rw (z, y) at (part_step a.out.now a.word.now a.from 0 (length a.word.now) (omega arith) (omega arith) a.from w.i w.out (omega arith) (rw z w.invariant))
