-- `timestamp::write::put_longest` meets its contract. The loop's invariant: the text over 1 to n % 3 + 3 i is written.
use Prim.Native.Nat.{ℕ, ◌+◌, ◌*◌, ◌%◌}
use native.Mathlib.Omega.{arith}
use mathlib.Core.Path.{◌≡◌, ap, ◌∙◌, subst}
use lib.ListN.{length}
use Rattle.xml.specs.Over.{Wrote}
use Rattle.xml.specs.OverLaws.{length_at}
use Rattle.timestamp.specs.Times.{write_times}
use Rattle.timestamp.specs.Longest.{longest}
use Rattle.timestamp.proofs.LongestLaws.{LongestWritten, longest-length, times-short, written-first, written_none, written-pair, written-whole}
use Rattle.timestamp.proofs.write.put_longest.Goals as goal

pub loop-i-init : goal.loop-i-init
loop-i-init c =
    let z : c.args.n % 3 ≡ c.args.n % 3 + 3 * 0 = omega arith in
    let P : ℕ → Type 0 = λ k. LongestWritten (c.args.n % 3) c.put_up_to-to.new.out c.put_up_to-to.result c.put_up_to-to.new.out c.put_up_to-to.result k in
    (omega arith, subst P z written_none)

pub put_pair-to-requires : goal.put_pair-to-requires
put_pair-to-requires c =
    let k : ℕ = c.args.n % 3 + 3 * c.loop-i.i in
    let whole : Wrote c.args.out.now c.args.at (write_times (longest k)) c.loop-i.to c.loop-i.out = written-whole (written-first {k = c.args.n % 3} (omega arith) c.put_up_to-to.ensures) c.loop-i.invariant.1 in
    (omega arith, omega (arith, whole.place, times-short (longest k) (omega (arith, longest-length k))))

pub loop-i-preserved : goal.loop-i-preserved
loop-i-preserved c =
    let z : c.args.n % 3 + 3 * c.loop-i.i + 3 ≡ c.args.n % 3 + 3 * (c.loop-i.i + 1) = omega arith in
    (omega arith, rw z at (written-pair c.loop-i.invariant.1 c.put_pair-to.ensures))

pub shape_of-out : goal.shape_of-out
shape_of-out c =
    let whole : Wrote c.args.out.now c.args.at (write_times (longest (c.args.n % 3 + 3 * c.loop-i.i))) c.loop-i.to c.loop-i.out = written-whole (written-first {k = c.args.n % 3} (omega arith) c.put_up_to-to.ensures) c.loop-i.invariant.1 in
    ap length whole.bytes ∙ length_at _ _ _

pub returns : goal.returns
returns c =
    let whole : Wrote c.args.out.now c.args.at (write_times (longest (c.args.n % 3 + 3 * c.loop-i.i))) c.loop-i.to c.loop-i.out = written-whole (written-first {k = c.args.n % 3} (omega arith) c.put_up_to-to.ensures) c.loop-i.invariant.1 in
    let e : c.args.n % 3 + 3 * c.loop-i.i ≡ c.args.n = omega arith in
    subst (λ (k : ℕ). Wrote c.args.out.now c.args.at (write_times (longest k)) c.loop-i.to c.loop-i.out) e whole
