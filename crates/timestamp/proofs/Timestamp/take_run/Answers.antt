-- `timestamp::Timestamp::take_run` meets its contract. The loop's invariant: the words before k are done, and had all (`Taking`).
use native.Mathlib.Omega.{arith}
use borrow.Author.Rules.{rules}
use Prim.Native.Nat.{◌/◌}
use mathlib.Core.Path.{◌≡◌, ◌∙◌}
use Rattle.timestamp.specs.Words.{bits-run}
use lib.ListN.{length}
use Rattle.timestamp.specs.Taken.{taking-start, run-lacks, run_more, run-all, run-one}
use Rattle.timestamp.proofs.Timestamp.take_run.Goals as goal

pub returns-then-first-last : goal.returns-then-first-last
returns-then-first-last c =
    let size : length c.args.self.now.words ≡ 16 = search rules in
    run-one (omega arith) (omega arith) c.args.self.now.words _ size c.if-first-last.true (c.bits.ensures ∙ bits-run c.args.lo c.args.hi (c.args.lo / 64) _ _ (omega arith) (omega (arith, c.if-first-last.true))) c.take_word.ensures

pub loop-k-init : goal.loop-k-init
loop-k-init c = (omega arith, omega arith, taking-start _ _ _ (search rules))

pub returns-then-not-take_word : goal.returns-then-not-take_word
returns-then-not-take_word c = let i = c.loop-k.invariant in
    run-lacks (omega arith) (omega arith) i.2 (omega arith) (omega arith) c.run_word.ensures c.take_word-in-loop-k.ensures c.if-not-take_word.true

pub loop-k-preserved : goal.loop-k-preserved
loop-k-preserved c = let i = c.loop-k.invariant in
    (omega arith, omega arith, run_more (omega arith) (omega arith) i.2 (omega arith) (omega arith) c.run_word.ensures c.take_word-in-loop-k.ensures c.if-not-take_word.false)

pub returns : goal.returns
returns c = run-all (omega arith) (omega arith) c.loop-k.invariant.2 (omega (arith, c.loop-k.invariant.1))
