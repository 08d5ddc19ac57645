-- `timestamp::Timestamp::next_in` meets its contract.
use Prim.Native.Nat.{◌/◌, ◌%◌}
use native.Mathlib.Omega.{arith}
use mathlib.Core.Path.{sym, ap, ◌∙◌}
use lib.ListN.{get_or}
use Rattle.timestamp.specs.First.{pick_held_of, word-member, word-passed, word-is}
use Rattle.timestamp.proofs.Timestamp.next_in.Goals as goal

pub returns-then-w-eq0 : goal.returns-then-w-eq0
returns-then-w-eq0 c = let a = c.args.self.now.words in
    let v = c.args.v in
    c.first_in.ensures
    ∙ ap pick_held_of (sym (word-passed (get_or a (v / 64) 0) v (v / 64) (v % 64) c.rest-w.result (word-is a (v / 64)) (omega arith) (omega arith) (omega arith) c.rest-w.ensures.0 c.if-w-eq0.true))

pub returns-else-w-eq0 : goal.returns-else-w-eq0
returns-else-w-eq0 c = let a = c.args.self.now.words in
    let v = c.args.v in
    rw c.lowest.ensures.0 (word-member (get_or a (v / 64) 0) v (v / 64) (v % 64) c.rest-w.result (word-is a (v / 64)) (omega arith) (omega arith) (omega arith) c.rest-w.ensures.0 c.rest-w.ensures.1 c.if-w-eq0.false)
