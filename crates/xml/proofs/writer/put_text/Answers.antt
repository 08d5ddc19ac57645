-- `xml::writer::put_text` meets its contract: of the run from i₀ on, what stands before i is written, and the rest is left. Assumes nothing.
use Prim.Native.Nat.{ℕ, ◌+◌, ◌^◌, ◌<◌, ◌≤◌}
use native.Mathlib.Omega.{arith}
use mathlib.Core.Path.{◌≡◌, ap, sym, ◌∙◌, subst}
use mathlib.Core.List.{List}
use lib.ListN.{length}
use lib.Seq.{slice, length-slice, length-take-le, take-length}
use Rattle.xml.specs.Bytes.{Bytes}
use Rattle.xml.specs.Over.{Wrote}
use Rattle.xml.specs.OverLaws.{length_at, wrote_then}
use Rattle.xml.specs.Signs.{plain_len, sign_at, spelt}
use Rattle.xml.specs.SignLaws.{Meant, Running, running, sign-means, spelt-over}
use Rattle.xml.specs.WriteLaws.{left-none, left-run, left-sign, left-done, left-room}
use Rattle.xml.specs.declared.text.Sign.{Sign}
use Rattle.xml.proofs.Tags.{part-is}
use Rattle.xml.proofs.writer.put_text.Goals as goal

-- the run from i on, up to its next marked byte
on : (s : Bytes) (i r : ℕ) → i ≤ length s → r ≡ i + plain_len (slice i (length s) s) → Running s i (length s) r
on s i r h e = running s i (length s) r h (omega arith) e

-- what the run means at i
meant : (s : Bytes) (i : ℕ) {g : Sign} → i < length s → g ≡ sign_at i (slice i (length s) s) → Meant s i (length s) g
meant s i h e = subst (λ (g : Sign). Meant s i (length s) g) (sym e) (sign-means s i (length s) h (omega arith))

-- the place that the first piece ends at
start : (s : Bytes) {out left : List ℕ} {at r : ℕ} (i : ℕ) → i ≤ length s → length s ≤ 32768 → at < 2 ^ 61 → Wrote out at (slice 0 i s) r left → r < 2 ^ 61 + 32768
start s i h k l w = omega (arith, w.place, length-slice 0 i s h)

pub put_word-to-requires : goal.put_word-to-requires
put_word-to-requires c = let s = c.args.part.now in
    let first = on s 0 c.plain_end-i.result (omega arith) c.plain_end-i.ensures in
    omega (arith, length-slice 0 c.plain_end-i.result s first.inside, first.inside)

pub loop-i-init : goal.loop-i-init
loop-i-init c = (omega arith, (on c.args.part.now 0 c.plain_end-i.result (omega arith) c.plain_end-i.ensures).inside, left-none)

pub put_escaped-to-requires : goal.put_escaped-to-requires
put_escaped-to-requires c = let s = c.args.part.now in
    let first = on s 0 c.plain_end-i.result (omega arith) c.plain_end-i.ensures in
    left-room s c.plain_end-i.result (length s) c.loop-i.invariant.2 (omega arith) (omega arith)
    (start s c.plain_end-i.result first.inside c.requires.0 c.requires.1 c.put_word-to.ensures)

pub plain_end-i-requires-in-loop-i : goal.plain_end-i-requires-in-loop-i
plain_end-i-requires-in-loop-i c = ((meant c.args.part.now c.loop-i.i c.loop-i-test.true c.sign_at-s.ensures).inside, omega arith)

pub put_word-to-requires-in-loop-i : goal.put_word-to-requires-in-loop-i
put_word-to-requires-in-loop-i c = let s = c.args.part.now in
    let first = on s 0 c.plain_end-i.result (omega arith) c.plain_end-i.ensures in
    let m = meant s c.loop-i.i c.loop-i-test.true c.sign_at-s.ensures in
    let i = c.sign_at-s.result.next in
    let j = c.plain_end-i-in-loop-i.result in
    let g = on s i j m.inside c.plain_end-i-in-loop-i.ensures in (
      rw (part-is i j s g.forward) (omega (arith, length-slice i j s g.inside, g.inside)),
      left-room s c.plain_end-i.result (length s) (left-sign m c.loop-i.invariant.2 c.put_escaped-to.ensures) (omega arith) (omega arith)
          (start s c.plain_end-i.result first.inside c.requires.0 c.requires.1 c.put_word-to.ensures),
    )

pub slice_bounds-put_word-end : goal.slice_bounds-put_word-end
slice_bounds-put_word-end c = let s = c.args.part.now in
    sym (length-take-le c.plain_end-i.result s (on s 0 c.plain_end-i.result (omega arith) c.plain_end-i.ensures).inside)

pub slice_bounds-put_word-end-in-loop-i : goal.slice_bounds-put_word-end-in-loop-i
slice_bounds-put_word-end-in-loop-i c = let s = c.args.part.now in
    let m = meant s c.loop-i.i c.loop-i-test.true c.sign_at-s.ensures in
    (on s c.sign_at-s.result.next c.plain_end-i-in-loop-i.result m.inside c.plain_end-i-in-loop-i.ensures).inside

pub loop-i-smaller : goal.loop-i-smaller
loop-i-smaller c = let s = c.args.part.now in
    let m = meant s c.loop-i.i c.loop-i-test.true c.sign_at-s.ensures in
    let g = on s c.sign_at-s.result.next c.plain_end-i-in-loop-i.result m.inside c.plain_end-i-in-loop-i.ensures in
    omega (arith, m.forward, g.forward, g.inside)

pub loop-i-preserved : goal.loop-i-preserved
loop-i-preserved c = let s = c.args.part.now in
    let m = meant s c.loop-i.i c.loop-i-test.true c.sign_at-s.ensures in
    let g = on s c.sign_at-s.result.next c.plain_end-i-in-loop-i.result m.inside c.plain_end-i-in-loop-i.ensures in (
      omega (arith, g.forward, m.forward, c.loop-i.invariant.0),
      g.inside,
      left-run g (left-sign m c.loop-i.invariant.2 c.put_escaped-to.ensures)
          (rw (part-is c.sign_at-s.result.next c.plain_end-i-in-loop-i.result s g.forward) at c.put_word-to-in-loop-i.ensures),
    )

pub shape_of-out : goal.shape_of-out
shape_of-out c = ap length c.loop-i.invariant.2.wrote.bytes ∙ length_at _ _ _ ∙ ap length c.put_word-to.ensures.bytes ∙ length_at _ _ _

pub returns : goal.returns
returns c = let s = c.args.part.now in
    let first = on s 0 c.plain_end-i.result (omega arith) c.plain_end-i.ensures in
    let done : c.loop-i.i ≡ length s = omega arith in
    rw (sym (ap spelt (take-length s)) ∙ first.written) (wrote_then c.put_word-to.ensures (left-done (rw (done, spelt-over s (length s)) at c.loop-i.invariant.2)))
