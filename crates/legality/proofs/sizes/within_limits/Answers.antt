-- `archive::sizes::within_limits` meets its contract. The loop's invariant: all versions are small just where those left are. Assumes
-- nothing.
use native.Mathlib.Omega.{arith}
use mathlib.Core.Path.{sym, ◌∙◌}
use Rattle.versions.specs.Small.{is_small, small-nodes, small_bytes, small-both, each_more, each-not, each-done, each_start}
use Rattle.legality.proofs.sizes.within_limits.Goals as goal

pub loop-i-init : goal.loop-i-init
loop-i-init c = each_start (is_small c.args.nodes.now c.args.bytes.now c.args.x c.args.y) c.args.n

pub bounds-nodes-i : goal.bounds-nodes-i
bounds-nodes-i c = omega (arith, c.requires.0.count, c.requires.2)

pub overflow_add-x : goal.overflow_add-x
overflow_add-x c = omega (arith, c.requires.0.room c.loop-i.i c.loop-i.auto.i (omega (arith, c.requires.2)))

pub returns-then-x-nodes-gt512 : goal.returns-then-x-nodes-gt512
returns-then-x-nodes-gt512 c = sym (c.loop-i.invariant ∙ each-not (is_small c.args.nodes.now c.args.bytes.now c.args.x c.args.y) c.loop-i.i c.args.n (omega (arith, c.loop-i-test.true)) (small-nodes c.args.nodes.now c.args.bytes.now c.args.x c.args.y c.loop-i.i c.if-x-nodes-gt512.true))

pub bounds-bytes-i : goal.bounds-bytes-i
bounds-bytes-i c = omega (arith, c.requires.1.count, c.requires.2)

pub overflow_add-y : goal.overflow_add-y
overflow_add-y c = omega (arith, c.requires.1.room c.loop-i.i c.loop-i.auto.i (omega (arith, c.requires.2)))

pub returns-then-y-bytes-gt16384 : goal.returns-then-y-bytes-gt16384
returns-then-y-bytes-gt16384 c = sym (c.loop-i.invariant ∙ each-not (is_small c.args.nodes.now c.args.bytes.now c.args.x c.args.y) c.loop-i.i c.args.n (omega (arith, c.loop-i-test.true)) (small_bytes c.args.nodes.now c.args.bytes.now c.args.x c.args.y c.loop-i.i c.if-y-bytes-gt16384.true))

pub loop-i-preserved : goal.loop-i-preserved
loop-i-preserved c = (c.loop-i.invariant ∙ each_more (is_small c.args.nodes.now c.args.bytes.now c.args.x c.args.y) c.loop-i.i c.args.n (omega (arith, c.loop-i-test.true)) (small-both c.args.nodes.now c.args.bytes.now c.args.x c.args.y c.loop-i.i c.if-x-nodes-gt512.false c.if-y-bytes-gt16384.false))

pub returns : goal.returns
returns c = sym (c.loop-i.invariant ∙ each-done (is_small c.args.nodes.now c.args.bytes.now c.args.x c.args.y) c.loop-i.i c.args.n (omega (arith, c.loop-i-test.false)))
