-- `xml::tag::put_value` meets its contract: of the value, what stands before i is written, and the rest is left. Assumes nothing.
use Prim.Native.Nat.{◌<◌}
use mathlib.Core.Path.{◌≡◌, ap, sym, ◌∙◌, subst}
use native.Mathlib.Omega.{arith}
use Prim.Native.Nat.{ℕ}
use lib.ListN.{length}
use lib.Seq.{slice, take-length}
use Rattle.xml.specs.Bytes.{Bytes}
use Rattle.xml.specs.OverLaws.{length_at}
use Rattle.xml.specs.Signs.{sign_at}
use Rattle.xml.specs.SignLaws.{Meant, sign-means}
use Rattle.xml.specs.WriteLaws.{left-none, left-done, left-place}
use Rattle.xml.specs.TagWritten.{quoted-over, length-quoted, left-value}
use Rattle.xml.specs.declared.text.Sign.{Sign}
use Rattle.xml.proofs.tag.put_value.Goals as goal

-- what the value means at i
meant : (s : Bytes) (i : ℕ) {g : Sign} → i < length s → g ≡ sign_at i (slice i (length s) s) → Meant s i (length s) g
meant s i h e = subst (λ (g : Sign). Meant s i (length s) g) (sym e) (sign-means s i (length s) h (omega arith))

pub loop-i-init : goal.loop-i-init
loop-i-init c = (omega arith, rw (take-length c.args.value.now) left-none)

pub put_quoted-to-requires : goal.put_quoted-to-requires
put_quoted-to-requires c = omega (arith, left-place c.loop-i.invariant.1, length-quoted c.args.value.now, c.requires)

pub loop-i-smaller : goal.loop-i-smaller
loop-i-smaller c =
    let m = meant c.args.value.now c.loop-i.i c.loop-i-test.true c.sign_at-g.ensures in omega (arith, m.forward, m.inside, c.loop-i-test.true)

pub loop-i-preserved : goal.loop-i-preserved
loop-i-preserved c =
    let m = meant c.args.value.now c.loop-i.i c.loop-i-test.true c.sign_at-g.ensures in (m.inside, left-value m c.loop-i.invariant.1 c.put_quoted-to.ensures)

pub shape_of-out : goal.shape_of-out
shape_of-out c = ap length c.loop-i.invariant.1.wrote.bytes ∙ length_at _ _ _

pub returns : goal.returns
returns c = let s = c.args.value.now in
    let done : c.loop-i.i ≡ length s = omega arith in
    left-done (rw (done, quoted-over s (length s)) at c.loop-i.invariant.1)
