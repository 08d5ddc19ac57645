-- `legality::sizes::raise` meets its contract. The loop's invariant (`Raising`): the versions of the runs that have been read have grown.
-- Assumes nothing.
use Prim.Native.Nat.{ℕ, ◌+◌}
use native.Mathlib.Omega.{arith}
use mathlib.Core.Path.{◌≡◌, ap, ◌∙◌}
use mathlib.Core.List.{[], ◌∷◌}
use lib.ListN.{get_or}
use lib.Seq.{slice, slice_empty}
use Rattle.timestamp.specs.Parse.{numbers_in}
use Rattle.legality.specs.Raised.{Raising, raising-start, raising-byte, digit-asks, raising-digit, is-dash, raising-dash, comma-closes, raising-comma, run-asks, end-closes, raising-end}
use Rattle.legality.proofs.sizes.raise.Goals as goal

pub loop-at-init : goal.loop-at-init
loop-at-init c = raising-start c.requires.0

pub bounds-src-at : goal.bounds-src-at
bounds-src-at c = omega (arith, c.requires.2)

pub overflow_mul-n : goal.overflow_mul-n
overflow_mul-n c =
    let turn : Raising (get_or c.args.src.now c.loop-at.at 0 ∷ slice (c.loop-at.at + 1) c.args.e c.args.src.now) (numbers_in (slice c.args.a c.args.e c.args.src.now)) c.args.x c.args.y c.args.nodes.now c.loop-at.nodes c.args.bytes.now c.loop-at.bytes c.loop-at.lo c.loop-at.n = raising-byte c.args.src.now c.loop-at.at c.args.e c.loop-at-test.true c.requires.2 c.loop-at.invariant in
    omega (arith, digit-asks turn (λ q. omega arith) (λ q. omega arith))

pub overflow_cast-n : goal.overflow_cast-n
overflow_cast-n c =
    let turn : Raising (get_or c.args.src.now c.loop-at.at 0 ∷ slice (c.loop-at.at + 1) c.args.e c.args.src.now) (numbers_in (slice c.args.a c.args.e c.args.src.now)) c.args.x c.args.y c.args.nodes.now c.loop-at.nodes c.args.bytes.now c.loop-at.bytes c.loop-at.lo c.loop-at.n = raising-byte c.args.src.now c.loop-at.at c.args.e c.loop-at-test.true c.requires.2 c.loop-at.invariant in
    omega (arith, digit-asks turn (λ q. omega arith) (λ q. omega arith))

pub overflow_add-n : goal.overflow_add-n
overflow_add-n c =
    let turn : Raising (get_or c.args.src.now c.loop-at.at 0 ∷ slice (c.loop-at.at + 1) c.args.e c.args.src.now) (numbers_in (slice c.args.a c.args.e c.args.src.now)) c.args.x c.args.y c.args.nodes.now c.loop-at.nodes c.args.bytes.now c.loop-at.bytes c.loop-at.lo c.loop-at.n = raising-byte c.args.src.now c.loop-at.at c.args.e c.loop-at-test.true c.requires.2 c.loop-at.invariant in
    omega (arith, digit-asks turn (λ q. omega arith) (λ q. omega arith))

pub loop-at-preserved-then-b-ge48 : goal.loop-at-preserved-then-b-ge48
loop-at-preserved-then-b-ge48 c =
    let turn : Raising (get_or c.args.src.now c.loop-at.at 0 ∷ slice (c.loop-at.at + 1) c.args.e c.args.src.now) (numbers_in (slice c.args.a c.args.e c.args.src.now)) c.args.x c.args.y c.args.nodes.now c.loop-at.nodes c.args.bytes.now c.loop-at.bytes c.loop-at.lo c.loop-at.n = raising-byte c.args.src.now c.loop-at.at c.args.e c.loop-at-test.true c.requires.2 c.loop-at.invariant in
    raising-digit turn (λ q. omega arith) (λ q. omega arith)

pub raise_span-requires : goal.raise_span-requires
raise_span-requires c =
    let turn : Raising (get_or c.args.src.now c.loop-at.at 0 ∷ slice (c.loop-at.at + 1) c.args.e c.args.src.now) (numbers_in (slice c.args.a c.args.e c.args.src.now)) c.args.x c.args.y c.args.nodes.now c.loop-at.nodes c.args.bytes.now c.loop-at.bytes c.loop-at.lo c.loop-at.n = raising-byte c.args.src.now c.loop-at.at c.args.e c.loop-at-test.true c.requires.2 c.loop-at.invariant in
    let r = turn in run-asks r (comma-closes r c.if-b-eq44.true) c.requires.3 c.requires.4

pub loop-at-preserved-then-b-eq44 : goal.loop-at-preserved-then-b-eq44
loop-at-preserved-then-b-eq44 c =
    let turn : Raising (get_or c.args.src.now c.loop-at.at 0 ∷ slice (c.loop-at.at + 1) c.args.e c.args.src.now) (numbers_in (slice c.args.a c.args.e c.args.src.now)) c.args.x c.args.y c.args.nodes.now c.loop-at.nodes c.args.bytes.now c.loop-at.bytes c.loop-at.lo c.loop-at.n = raising-byte c.args.src.now c.loop-at.at c.args.e c.loop-at-test.true c.requires.2 c.loop-at.invariant in
    raising-comma turn c.if-b-eq44.true c.raise_span.ensures.0 c.raise_span.ensures.1

pub loop-at-preserved : goal.loop-at-preserved
loop-at-preserved c =
    let turn : Raising (get_or c.args.src.now c.loop-at.at 0 ∷ slice (c.loop-at.at + 1) c.args.e c.args.src.now) (numbers_in (slice c.args.a c.args.e c.args.src.now)) c.args.x c.args.y c.args.nodes.now c.loop-at.nodes c.args.bytes.now c.loop-at.bytes c.loop-at.lo c.loop-at.n = raising-byte c.args.src.now c.loop-at.at c.args.e c.loop-at-test.true c.requires.2 c.loop-at.invariant in
    let r = turn in raising-dash r (is-dash r (omega arith) c.if-b-eq44.false)

pub raise_span-requires-2 : goal.raise_span-requires-2
raise_span-requires-2 c =
    let done : Raising [] (numbers_in (slice c.args.a c.args.e c.args.src.now)) c.args.x c.args.y c.args.nodes.now c.loop-at.nodes c.args.bytes.now c.loop-at.bytes c.loop-at.lo c.loop-at.n = let z : c.loop-at.at ≡ c.args.e = omega arith in rw (ap (λ (m : ℕ). slice m c.args.e c.args.src.now) z ∙ slice_empty c.args.e c.args.src.now) at c.loop-at.invariant in
    let r = done in run-asks r (end-closes r) c.requires.3 c.requires.4

pub shape_of-nodes : goal.shape_of-nodes
shape_of-nodes c =
    let done : Raising [] (numbers_in (slice c.args.a c.args.e c.args.src.now)) c.args.x c.args.y c.args.nodes.now c.loop-at.nodes c.args.bytes.now c.loop-at.bytes c.loop-at.lo c.loop-at.n = let z : c.loop-at.at ≡ c.args.e = omega arith in rw (ap (λ (m : ℕ). slice m c.args.e c.args.src.now) z ∙ slice_empty c.args.e c.args.src.now) at c.loop-at.invariant in
    (raising-end done c.raise_span-2.ensures.0 c.raise_span-2.ensures.1).0.count

pub shape_of-bytes : goal.shape_of-bytes
shape_of-bytes c =
    let done : Raising [] (numbers_in (slice c.args.a c.args.e c.args.src.now)) c.args.x c.args.y c.args.nodes.now c.loop-at.nodes c.args.bytes.now c.loop-at.bytes c.loop-at.lo c.loop-at.n = let z : c.loop-at.at ≡ c.args.e = omega arith in rw (ap (λ (m : ℕ). slice m c.args.e c.args.src.now) z ∙ slice_empty c.args.e c.args.src.now) at c.loop-at.invariant in
    (raising-end done c.raise_span-2.ensures.0 c.raise_span-2.ensures.1).1.count

pub returns : goal.returns
returns c =
    let done : Raising [] (numbers_in (slice c.args.a c.args.e c.args.src.now)) c.args.x c.args.y c.args.nodes.now c.loop-at.nodes c.args.bytes.now c.loop-at.bytes c.loop-at.lo c.loop-at.n = let z : c.loop-at.at ≡ c.args.e = omega arith in rw (ap (λ (m : ℕ). slice m c.args.e c.args.src.now) z ∙ slice_empty c.args.e c.args.src.now) at c.loop-at.invariant in
    raising-end done c.raise_span-2.ensures.0 c.raise_span-2.ensures.1
