-- `timestamp::Timestamp::is_part` meets its contract. The loop's invariant: `lack` and `more` are 0 where the words so far are (`Ored`).
use mathlib.Core.Path.{◌≡◌}
use native.Mathlib.Omega.{arith}
use Rattle.timestamp.specs.Taken.{ored-start, part-lack, part-more, part_none, part-told}
use Rattle.timestamp.proofs.Timestamp.is_part.Goals as goal

pub loop-k-init : goal.loop-k-init
loop-k-init c = (omega arith, ored-start _ _, ored-start _ _)

pub offset_bounds-other-k : goal.offset_bounds-other-k
offset_bounds-other-k c = omega arith

pub bounds-other-k : goal.bounds-other-k
bounds-other-k c = omega arith

pub offset_bounds-self-k : goal.offset_bounds-self-k
offset_bounds-self-k c = omega arith

pub bounds-self-k : goal.bounds-self-k
bounds-self-k c = omega arith

pub offset_bounds-self-k-in-loop-k : goal.offset_bounds-self-k-in-loop-k
offset_bounds-self-k-in-loop-k c = omega arith

pub bounds-self-k-in-loop-k : goal.bounds-self-k-in-loop-k
bounds-self-k-in-loop-k c = omega arith

pub overflow_step-k : goal.overflow_step-k
overflow_step-k c = omega arith

pub loop-k-smaller : goal.loop-k-smaller
loop-k-smaller c = omega arith

pub loop-k-preserved : goal.loop-k-preserved
loop-k-preserved c = let a = c.args.self.words in
    let b = c.args.other.words in
    let i = c.loop-k.invariant in
    let d = c.differing-x.ensures in
    (omega arith, part-lack a b i.1 (omega arith) c.common-lack.ensures.1 (rw d.0 at c.common-lack.ensures.0), rw d.0 (part-more a b i.2 (omega arith) d.2 d.1))

pub returns-then-lack-ne0 : goal.returns-then-lack-ne0
returns-then-lack-ne0 c = let l = c.loop-k.invariant in let e : c.loop-k.k ≡ 16 = omega arith in rw (part_none _ _ (rw e at l.1) c.if-lack-ne0.true)

pub returns : goal.returns
returns c = let l = c.loop-k.invariant in let e : c.loop-k.k ≡ 16 = omega arith in part-told _ _ (rw e at l.1) c.if-lack-ne0.false (rw e at l.2)
