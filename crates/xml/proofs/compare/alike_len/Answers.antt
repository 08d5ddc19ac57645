-- `xml::compare::alike_len` meets its contract: the bytes after the blocks are alike too. Assumes nothing.
use native.Mathlib.Omega.{arith}
use Rattle.xml.specs.Alike.{alike_then, onward}
use Rattle.xml.proofs.compare.alike_len.Goals as goal

pub overflow_sub-e1 : goal.overflow_sub-e1
overflow_sub-e1 c = omega arith

pub overflow_sub-e2 : goal.overflow_sub-e2
overflow_sub-e2 c = omega arith

pub alike_blocks-n-requires : goal.alike_blocks-n-requires
alike_blocks-n-requires c = omega (arith, c.least-count.ensures, c.requires.le₁, c.requires.in₁, c.requires.le₂, c.requires.in₂)

pub overflow_add-i : goal.overflow_add-i
overflow_add-i c = omega (arith, c.alike_blocks-n.ensures.0, c.least-count.ensures, c.requires.le₁, c.requires.in₁, c.requires.le₂, c.requires.in₂)

pub overflow_add-j : goal.overflow_add-j
overflow_add-j c = omega (arith, c.alike_blocks-n.ensures.0, c.least-count.ensures, c.requires.le₁, c.requires.in₁, c.requires.le₂, c.requires.in₂)

pub overflow_sub-count : goal.overflow_sub-count
overflow_sub-count c = omega (arith, c.alike_blocks-n.ensures.0)

pub alike_bytes-requires : goal.alike_bytes-requires
alike_bytes-requires c = omega (arith, c.alike_blocks-n.ensures.0, c.least-count.ensures, c.requires.le₁, c.requires.in₁, c.requires.le₂, c.requires.in₂)

pub overflow_add-result : goal.overflow_add-result
overflow_add-result c = omega (arith, c.alike_bytes.ensures.0, c.alike_blocks-n.ensures.0, c.least-count.ensures, c.requires.le₁, c.requires.in₁)

pub returns : goal.returns
returns c = let a = c.args in
    let p = c.requires in
    let l = c.least-count.ensures in
    let x = c.alike_blocks-n.ensures in
    let y = c.alike_bytes.ensures in
    onward a.src1.now a.e1 a.src2.now a.e2 p.in₁ p.in₂ (omega (arith, x.0, y.0, p.le₁)) (omega (arith, x.0, y.0, p.le₂)) (alike_then x.1 y.1)
