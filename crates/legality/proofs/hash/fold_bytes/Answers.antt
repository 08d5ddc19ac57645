-- `legality::hash::fold_bytes` meets its contract. The loop's invariant: folding in the bytes left gives what all of them give. Assumes nothing.
use Prim.Native.Nat.{ℕ, ◌+◌, ◌-◌, ◌<◌, ◌≤◌}
use native.Mathlib.Omega.{arith}
use mathlib.Core.Path.{◌≡◌, sym, ◌∙◌}
use mathlib.Core.List.{List}
use lib.ListN.{length, take, drop, get_or}
use Rattle.std.proofs.Common.{length-drop}
use Rattle.std.proofs.lemmas.List.{get_or-drop, get_or-take, length-take-le}
use Rattle.versions.specs.Hashes.{mixed-small}
use Rattle.legality.specs.Folded.{fold-byte, fold-none}
use Rattle.legality.proofs.hash.fold_bytes.Goals as goal

part-length : (a e : ℕ) (l : List ℕ) → a ≤ e → e ≤ length l → length (take (e - a) (drop a l)) ≡ e - a
part-length a e l h k = let z : e - a ≤ length (drop a l) = rw length-drop (omega arith) in length-take-le (e - a) (drop a l) z

pub loop-b-preserved : goal.loop-b-preserved
loop-b-preserved c =
    let a = c.args in
    let i = c.loop-b.b-index in
    let n = part-length a.a a.e a.src.now c.requires.0 c.requires.1 in
    let l : i < a.e - a.a = omega (arith, c.loop-b-test.true, n) in
    let b : get_or (take (a.e - a.a) (drop a.a a.src.now)) i 0 ≡ get_or a.src.now (a.a + i) 0 = get_or-take (a.e - a.a) (drop a.a a.src.now) i 0 l ∙ get_or-drop a.a a.src.now i 0 in
    rw (c.mix-h.ensures, b)
    (mixed-small c.loop-b.h _, c.loop-b.invariant.1 ∙ fold-byte a.src.now a.e c.requires.1 (a.a + i) (a.a + (i + 1)) c.loop-b.h (omega (arith, l)) (omega arith))

pub returns : goal.returns
returns c =
    let a = c.args in
    let n = part-length a.a a.e a.src.now c.requires.0 c.requires.1 in
    let z : a.a + c.loop-b.b-index ≡ a.e = omega (arith, c.loop-b-test.false, c.loop-b.auto.b-index-end, n, c.requires.0) in
    sym (c.loop-b.invariant.1 ∙ rw z (fold-none a.src.now a.e c.loop-b.h))
