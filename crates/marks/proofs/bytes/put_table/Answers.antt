use native.Mathlib.Omega.{arith}
use mathlib.Core.Path.{◌≡◌, refl, sym, ◌∙◌}
use lib.ListN.{length}
use borrow.Author.Rules.{rules}
use Rattle.marks.specs.BytesLaws.{put-start, put-length, put_next, put-end}
use Rattle.marks.proofs.bytes.put_table.Goals as goal

pub loop-i-init : goal.loop-i-init
loop-i-init c = put-start c.args.t.held c.args.out.now

pub put_entry-requires : goal.put_entry-requires
put_entry-requires c = let z = put-length c.args.t.held c.loop-i.i c.args.out.now c.loop-i.out (omega arith) c.requires c.loop-i.invariant in
    (omega arith, omega arith)

pub loop-i-preserved : goal.loop-i-preserved
loop-i-preserved c = let a = c.args in
    let h : length a.t.held ≡ 32 = search rules in
    put_next a.t.held c.loop-i.i a.out.now c.loop-i.out _ _ (omega arith) h c.requires refl c.put_entry.ensures.1 c.loop-i.invariant c.put_entry.ensures.0

pub shape_of-out : goal.shape_of-out
shape_of-out c = let a = c.args in
    put-length a.t.held c.loop-i.i a.out.now c.loop-i.out (omega arith) c.requires c.loop-i.invariant ∙ sym c.requires

pub returns : goal.returns
returns c = let a = c.args in
    let h : length a.t.held ≡ 32 = search rules in
    put-end a.t.held c.loop-i.i a.out.now c.loop-i.out (omega arith) (omega arith) h c.requires c.loop-i.invariant
