-- `legality::few::few_legal` meets its contract. The loop's invariant (`Way`): the answer is that for the nodes left, after those passed,
-- whose contents' versions are those of `times` that are not left. Assumes nothing.
use Prim.Native.Nat.{◌%◌}
use native.Mathlib.Omega.{arith}
use mathlib.Core.Path.{◌≡◌, refl, sym, ◌∙◌, ap}
use mathlib.Core.Bool.{true}
use borrow.Author.Rules.{rules}
use Rattle.std.specs.Prelude.{Some, None}
use Rattle.xml.specs.Forest.{end}
use Rattle.xml.specs.Tape.{head_at, at-end}
use Rattle.xml.specs.TapeLaws.{Front, bytes_at, front, split, tape-join}
use Rattle.timestamp.specs.Set.{set_of, without}
use Rattle.timestamp.specs.Listed.{Only}
use Rattle.timestamp.specs.Parses.{text-first}
use Rattle.timestamp.specs.TakenText.{TakesText}
use Rattle.versions.specs.Branches.{follows, first, way-start, way-few, way-done, way-other}
use Rattle.versions.specs.Hashes.{way-illegal, way-legal}
use Rattle.legality.specs.Left.{Within, Took, took, within-read, within-less, none-taken, all-taken, more-taken, left-follow, way-missed, way-untaken}
use Rattle.legality.proofs.few.few_legal.Goals as goal

pub loop-p-init : goal.loop-p-init
loop-p-init c = (omega arith, λ f t o. way-start t (none-taken (set_of c.args.times.words)), record { forest = end; tape = at-end refl }, c.requires, search rules, λ v q. q)

pub view-v-requires : goal.view-v-requires
view-v-requires c =
    let here : Front c.args.doc.now.src.now c.args.doc.now.tape.now c.loop-p.p c.args.hi = front c.loop-p.invariant.3.tape c.loop-p-test.true in
    here.held

pub returns-then-v-ne2 : goal.returns-then-v-ne2
returns-then-v-ne2 c f t o = sym (way-other (c.loop-p.invariant.1 f t o) c.loop-p-test.true (rw c.view-v.ensures at c.if-v-ne2.true))

pub take_at-requires : goal.take_at-requires
take_at-requires c =
    let here : Front c.args.doc.now.src.now c.args.doc.now.tape.now c.loop-p.p c.args.hi = front c.loop-p.invariant.3.tape c.loop-p-test.true in
    rw c.view-v.ensures (omega arith, here.within)

pub returns-in_default : goal.returns-in_default
returns-in_default c f t o =
    let kind : head_at c.args.doc.now.tape.now c.loop-p.p % 4 ≡ 2 = rw c.view-v.ensures at c.if-v-ne2.false in
    let missed : TakesText (bytes_at c.args.doc.now.src.now c.args.doc.now.tape.now c.loop-p.p) c.loop-p.left.words c.take_at.new.left.words None = rw c.view-v.ensures at c.in_default.ensures in
    sym (way-missed (set_of c.args.times.words) (set_of c.loop-p.left.words) (c.loop-p.invariant.1 f t o) c.loop-p-test.true kind missed.0)

pub returns-then-start-first : goal.returns-then-start-first
returns-then-start-first c f t o =
    let kind : head_at c.args.doc.now.tape.now c.loop-p.p % 4 ≡ 2 = rw c.view-v.ensures at c.if-v-ne2.false in
    let taking : TakesText (bytes_at c.args.doc.now.src.now c.args.doc.now.tape.now c.loop-p.p) c.loop-p.left.words c.take_at.new.left.words (Some c.in-Some.start) = rw c.view-v.ensures at c.in-Some.ensures in
    sym (way-untaken (set_of c.args.times.words) (set_of c.loop-p.left.words) (c.loop-p.invariant.1 f t o) c.loop-p-test.true kind c.in-Some.start taking.0 c.if-start-first.true)

pub overflow_add-p : goal.overflow_add-p
overflow_add-p c =
    let here : Front c.args.doc.now.src.now c.args.doc.now.tape.now c.loop-p.p c.args.hi = front c.loop-p.invariant.3.tape c.loop-p-test.true in
    omega (arith, here.held)

pub is_new-requires : goal.is_new-requires
is_new-requires c = rw c.view-v.ensures (c.loop-p.invariant.2, record { forest = _; tape = (first c.loop-p.invariant.3.tape c.loop-p-test.true).inside })

pub returns-then-not-is_new : goal.returns-then-not-is_new
returns-then-not-is_new c f t o =
    let kind : head_at c.args.doc.now.tape.now c.loop-p.p % 4 ≡ 2 = rw c.view-v.ensures at c.if-v-ne2.false in
    let taking : TakesText (bytes_at c.args.doc.now.src.now c.args.doc.now.tape.now c.loop-p.p) c.loop-p.left.words c.take_at.new.left.words (Some c.in-Some.start) = rw c.view-v.ensures at c.in-Some.ensures in
    let taken : Took (set_of c.loop-p.left.words) (bytes_at c.args.doc.now.src.now c.args.doc.now.tape.now c.loop-p.p) c.in-Some.start = took _ _ _ (taking).0 in
    let had : Within (taken).set (set_of c.loop-p.left.words) = within-read _ _ _ (taken).is (taken).had in
    let may : Only c.args.n (set_of c.args.times.words) → follows c.args.n (without (set_of c.args.times.words) (set_of c.loop-p.left.words)) c.loop-p.first (taken).set ≡ true = λ o. left-follow _ _ _ _ _ o c.loop-p.invariant.5 (had) (omega (arith, c.if-start-first.false, (taken).first)) in
    let k = taken in sym (way-illegal (c.loop-p.invariant.1 f t o) c.loop-p-test.true kind k.set k.is (may o) (λ d g a b. sym c.if-not-is_new.true ∙ (rw c.view-v.ensures at c.is_new.ensures) d g a b))

pub overflow_add-count : goal.overflow_add-count
overflow_add-count c =
    let taking : TakesText (bytes_at c.args.doc.now.src.now c.args.doc.now.tape.now c.loop-p.p) c.loop-p.left.words c.take_at.new.left.words (Some c.in-Some.start) = rw c.view-v.ensures at c.in-Some.ensures in
    let taken : Took (set_of c.loop-p.left.words) (bytes_at c.args.doc.now.src.now c.args.doc.now.tape.now c.loop-p.p) c.in-Some.start = took _ _ _ (taking).0 in
    let k = taken in omega (arith, c.if-start-first.false, k.first, text-first _ _ k.is, c.loop-p.invariant.0)

pub loop-p-smaller : goal.loop-p-smaller
loop-p-smaller c =
    let here : Front c.args.doc.now.src.now c.args.doc.now.tape.now c.loop-p.p c.args.hi = front c.loop-p.invariant.3.tape c.loop-p-test.true in
    let s = here in rw c.view-v.ensures (omega (arith, s.forward, s.inside))

pub loop-p-preserved : goal.loop-p-preserved
loop-p-preserved c =
    let taking : TakesText (bytes_at c.args.doc.now.src.now c.args.doc.now.tape.now c.loop-p.p) c.loop-p.left.words c.take_at.new.left.words (Some c.in-Some.start) = rw c.view-v.ensures at c.in-Some.ensures in
    let taken : Took (set_of c.loop-p.left.words) (bytes_at c.args.doc.now.src.now c.args.doc.now.tape.now c.loop-p.p) c.in-Some.start = took _ _ _ (taking).0 in
    let had : Within (taken).set (set_of c.loop-p.left.words) = within-read _ _ _ (taken).is (taken).had in
    let kind : head_at c.args.doc.now.tape.now c.loop-p.p % 4 ≡ 2 = rw c.view-v.ensures at c.if-v-ne2.false in
    let may : Only c.args.n (set_of c.args.times.words) → follows c.args.n (without (set_of c.args.times.words) (set_of c.loop-p.left.words)) c.loop-p.first (taken).set ≡ true = λ o. left-follow _ _ _ _ _ o c.loop-p.invariant.5 (had) (omega (arith, c.if-start-first.false, (taken).first)) in
    let w = split c.loop-p.invariant.3.tape c.loop-p-test.true in
    let k = taken in
    let e = taking.1 k.set k.is k.had in
    rw c.view-v.ensures (
      omega (arith, c.if-start-first.false, c.loop-p.invariant.0),
      λ f t o. way-legal (c.loop-p.invariant.1 f t o) c.loop-p-test.true kind k.set k.is (may o) (λ d g a b. sym c.if-not-is_new.false ∙ (rw c.view-v.ensures at c.is_new.ensures) d g a b) (ap (without (set_of c.args.times.words)) e ∙ more-taken _ _ _ c.loop-p.invariant.5 had) k.first,
      record { forest = _; tape = tape-join c.loop-p.invariant.2.tape w.here },
      record { forest = _; tape = w.after },
      taking.2,
      within-less k.set _ _ _ e c.loop-p.invariant.5,
    )

pub returns-then-count-lt2 : goal.returns-then-count-lt2
returns-then-count-lt2 c f t o = sym (way-few (c.loop-p.invariant.1 f t o) c.loop-p-test.false c.if-count-lt2.true)

pub returns : goal.returns
returns c f t o = c.is_empty.ensures ∙ sym (all-taken _ _ c.loop-p.invariant.5) ∙ sym (way-done (c.loop-p.invariant.1 f t o) c.loop-p-test.false c.if-count-lt2.false)
