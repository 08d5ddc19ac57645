-- `xml::scan::name_rest` meets its contract. The invariant: n bytes were of the name, and the rest of it is what stands after them.
-- Assumes nothing.
use mathlib.Core.Path.{◌≡◌, sym, ◌∙◌, ap}
use mathlib.Core.Bool.{true}
use Prim.Native.Nat.{ℕ, ◌+◌, ◌-◌, ◌<◌}
use native.Mathlib.Nat.{add-zero, zero-add}
use native.Mathlib.Omega.{arith}
use borrow.Author.Tests.{ltb-true, ltb-false}
use lib.Dec.{ltb}
use lib.ListN.{length, drop, get_or}
use Rattle.xml.specs.Bytes.{is_name_byte}
use Rattle.xml.specs.ByteTests.{small-named}
use Rattle.xml.specs.Read.{name_rest}
use Rattle.xml.specs.ScanLaws.{name_rest-none, name_rest-end, name_rest-stop, name_rest-more}
use Rattle.xml.specs.Truth.{by-test}
use Rattle.xml.proofs.scan.name_rest.Goals.{then-not-is_small+else-not-is_name_byte, else-not-is_small}
use Rattle.xml.proofs.scan.name_rest.Goals as goal

pub overflow_sub-src : goal.overflow_sub-src
overflow_sub-src c = omega arith

pub loop-n-init : goal.loop-n-init
loop-n-init c = (omega arith, simp (zero-add, add-zero))

pub overflow_add-b : goal.overflow_add-b
overflow_add-b c = omega (arith, c.least-count.ensures)

pub bounds-src-at : goal.bounds-src-at
bounds-src-at c = omega (arith, c.least-count.ensures)

pub returns-then-not-is_name_byte : goal.returns-then-not-is_name_byte
returns-then-not-is_name_byte c = let src = c.args.src.now in
    let at = c.args.at in
    let n = c.loop-n.n in
    let k = c.is_name_byte in
    let h : at + n < length src = omega (arith, c.least-count.ensures) in
    omega (arith, name_rest-stop src (at + n) (31 - n) h (sym k.ensures ∙ c.if-not-is_name_byte.true))

pub overflow_add-n : goal.overflow_add-n
overflow_add-n c = omega arith

pub loop-n-smaller : goal.loop-n-smaller
loop-n-smaller c = omega arith

pub loop-n-preserved : goal.loop-n-preserved
loop-n-preserved c = let src = c.args.src.now in
    let at = c.args.at in
    let n = c.loop-n.n in
    let b = get_or src (at + n) 0 in
    let k = c.is_small in
    let named : is_name_byte b ≡ true =
    elim c.if-not-is_small.branch [ then-not-is_small+else-not-is_name_byte w ↦ sym w.is_name_byte.ensures ∙ w.if-not-is_name_byte.false | else-not-is_small w ↦ small-named b (sym k.ensures ∙ w.if-not-is_small.false) ]
    in
    let h : at + n < length src = omega (arith, c.least-count.ensures) in
    let few : n < 31 = omega (arith, c.least-count.ensures) in
    let more = name_rest-more src (at + n) (31 - n) (31 - (n + 1)) (at + (n + 1)) h named (omega arith) (omega arith) in
    (omega arith, omega arith)

pub returns : goal.returns
returns c = let src = c.args.src.now in
    let at = c.args.at in
    let n = c.loop-n.n in
    by-test (ltb n 31)
    (λ t. omega (arith, name_rest-end src (at + n) (31 - n) (omega (arith, ltb-true n 31 t, c.least-count.ensures))))
    (λ t.
    let e : 31 - n ≡ 0 = omega (arith, ltb-false n 31 t) in
    omega (arith, ap (λ (r : ℕ). name_rest r (drop (at + n) src)) e, name_rest-none (drop (at + n) src)))
