-- `walks::back::same_cut` meets its contract: the texts are the same where what is left of them is.
use Prim.Native.Nat.{◌+◌}
use native.Mathlib.Omega.{arith}
use mathlib.Core.Path.{◌≡◌, refl, sym, ◌∙◌}
use Rattle.xml.specs.CompareLaws.{same-lengths, bytes-more, bytes-other, bytes-over}
use Rattle.walks.specs.Trimmed.{cut_text, trimmed-short, cut-long, cut-room, cut-byte}
use Rattle.walks.proofs.back.same_cut.Goals as goal

pub overflow_add-size : goal.overflow_add-size
overflow_add-size c = omega (arith, trimmed-short c.requires.2, c.put_tail.ensures.place)

pub overflow_add-y : goal.overflow_add-y
overflow_add-y c = omega (arith, trimmed-short c.requires.3, c.put_tail-2.ensures.place)

pub returns-then-size-y : goal.returns-then-size-y
returns-then-size-y c = sym (same-lengths _ _ (λ e. c.if-size-y.true (cut-long c.requires.2 c.put_tail.ensures ∙ e ∙ sym (cut-long c.requires.3 c.put_tail-2.ensures))))

pub byte_in-requires : goal.byte_in-requires
byte_in-requires c = let p = c.requires in (p.2.inside, omega (arith, c.loop-k-test.true, cut-room p.1 p.0 p.2 c.put_tail.ensures refl))

pub byte_in-requires-in-loop-k : goal.byte_in-requires-in-loop-k
byte_in-requires-in-loop-k c = let p = c.requires in (p.3.inside, omega (arith, c.loop-k-test.true, c.if-size-y.false, cut-room p.1 p.0 p.3 c.put_tail-2.ensures refl))

pub returns-then-byte_in : goal.returns-then-byte_in
returns-then-byte_in c = let p = c.requires in
    let g = c.args in
    let k = c.loop-k.k in
    let x = cut-byte p.1 p.0 p.2 c.put_tail.ensures refl k c.loop-k-test.true in
    let y = cut-byte p.1 p.0 p.3 c.put_tail-2.ensures refl k (omega (arith, c.loop-k-test.true, c.if-size-y.false)) in
    let m = cut-long p.2 c.put_tail.ensures in
    let n = c.if-size-y.false ∙ cut-long p.3 c.put_tail-2.ensures in
    let s = g.x.to + c.put_tail.result in
    sym (c.loop-k.invariant ∙ bytes-other (cut_text g.src.now g.a g.x.to g.x.tail g.i) k s (cut_text g.src.now g.b g.y.to g.y.tail g.i) k s c.loop-k-test.true (omega (arith, m)) c.loop-k-test.true (omega (arith, n))
    (λ e. c.if-byte_in.true (c.byte_in.ensures ∙ x ∙ e ∙ sym (c.byte_in-in-loop-k.ensures ∙ y))))

pub loop-k-preserved : goal.loop-k-preserved
loop-k-preserved c = let p = c.requires in
    let g = c.args in
    let k = c.loop-k.k in
    let x = cut-byte p.1 p.0 p.2 c.put_tail.ensures refl k c.loop-k-test.true in
    let y = cut-byte p.1 p.0 p.3 c.put_tail-2.ensures refl k (omega (arith, c.loop-k-test.true, c.if-size-y.false)) in
    let m = cut-long p.2 c.put_tail.ensures in
    let n = c.if-size-y.false ∙ cut-long p.3 c.put_tail-2.ensures in
    let s = g.x.to + c.put_tail.result in
    c.loop-k.invariant ∙ bytes-more (cut_text g.src.now g.a g.x.to g.x.tail g.i) k s (cut_text g.src.now g.b g.y.to g.y.tail g.i) k s c.loop-k-test.true (omega (arith, m)) c.loop-k-test.true (omega (arith, n))
    (sym (c.byte_in.ensures ∙ x) ∙ c.if-byte_in.false ∙ c.byte_in-in-loop-k.ensures ∙ y)

pub returns : goal.returns
returns c = let g = c.args in
    let s = g.x.to + c.put_tail.result in
    let z : c.loop-k.k ≡ s = omega (arith, c.loop-k-test.false) in
    sym (c.loop-k.invariant ∙ rw z (bytes-over (cut_text g.src.now g.a g.x.to g.x.tail g.i) s (cut_text g.src.now g.b g.y.to g.y.tail g.i) s))
