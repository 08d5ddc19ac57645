-- `legality::hash::hash` meets its contract. The loop's invariant: folding in the nodes left gives the hash of all nodes. Assumes nothing.
use Prim.Native.Nat.{◌%◌}
use native.Mathlib.Omega.{arith}
use mathlib.Core.Path.{◌≡◌, refl, sym, ◌∙◌}
use Rattle.xml.specs.Tape.{head_at}
use Rattle.xml.specs.TapeLaws.{bytes_at}
use Rattle.xml.specs.SameTapes.{At, tape-at}
use Rattle.versions.specs.Hashes.{hash_node, node-small, along-more, along-none, along-tape}
use Rattle.legality.proofs.hash.hash.Goals as goal

pub loop-i-init : goal.loop-i-init
loop-i-init c = (omega arith, refl)

pub view-v-requires : goal.view-v-requires
view-v-requires c =
    let here : At c.args.doc.now.src.now c.args.doc.now.tape.now c.loop-i.i = tape-at c.loop-i.i c.requires.tape c.loop-i.auto.i c.loop-i-test.true in
    here.held

pub hash_node-h-requires : goal.hash_node-h-requires
hash_node-h-requires c =
    let here : At c.args.doc.now.src.now c.args.doc.now.tape.now c.loop-i.i = tape-at c.loop-i.i c.requires.tape c.loop-i.auto.i c.loop-i-test.true in
    rw c.view-v.ensures (omega arith, here.within, c.loop-i.invariant.0)

pub loop-i-preserved : goal.loop-i-preserved
loop-i-preserved c =
    let one : c.hash_node-h.result ≡ hash_node (head_at c.args.doc.now.tape.now c.loop-i.i % 4) (bytes_at c.args.doc.now.src.now c.args.doc.now.tape.now c.loop-i.i) c.loop-i.h = rw c.view-v.ensures at c.hash_node-h.ensures in
    let a = c.args in
    let o = c.loop-i in
    rw one (node-small _ _ _, sym (along-more c.args.doc.now.src.now c.args.doc.now.tape.now o.i a.hi o.h c.loop-i-test.true) ∙ o.invariant.1)

pub returns : goal.returns
returns c f t = let a = c.args in
    sym (along-none c.args.doc.now.src.now c.args.doc.now.tape.now c.loop-i.i a.hi c.loop-i.h (omega arith)) ∙ c.loop-i.invariant.1 ∙ along-tape 0 t
