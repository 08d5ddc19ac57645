use Rattle.std.proofs.Common.{rules, tests, arith, ◌≡◌, refl, sym, ◌∙◌, length, take, drop, ◌+◌, get_or, length-take-le, get_or-take, true, false}
use Rattle.std.specs.List.{list_any}
use Rattle.std.proofs.lemmas.Iterator.{YieldsList-from_slice}
use Rattle.std.proofs.lemmas.Iterator.Search.{any_from_yields_List}
use Rattle.std.proofs.lemmas.Slice.{between_is}
use Rattle.xml.specs.Bytes.{same}
use Rattle.marks.specs.Marks.{name_of}
use Rattle.marks.specs.Lent.{past}
use Rattle.marks.specs.JudgeLaws.{distinct-next, distinct-end}
use Rattle.marks.proofs.judge.are_distinct.Goals as goal

pub loop-i-init : goal.loop-i-init
loop-i-init c = refl

pub returns-then-any : goal.returns-then-any
returns-then-any c = let u = c.args.u in
    let i = c.loop-i.i in
    let l = take u c.args.t.held in
    let h : length c.args.t.held ≡ 32 = search rules in
    let n : length l ≡ u = length-take-le u c.args.t.held (omega (arith, c.requires)) in
    let x : get_or l i past ≡ get_or c.args.t.held i past = get_or-take u c.args.t.held i past (omega arith) in
    let a : c.any.result ≡ list_any (λ m. same (name_of (get_or c.args.t.held i past)) (name_of m)) (drop (i + 1) l) = any_from_yields_List (λ m. same (name_of (get_or c.args.t.held i past)) (name_of m)) _ _ _ c.any.ensures.ran (YieldsList-from_slice _ (c.iter.ensures.rest ∙ between_is c.args.t.held (i + 1) u)) (λ x b q k. search (rules, tests)) in
    let t : list_any (λ m. same (name_of (get_or l i past)) (name_of m)) (drop (i + 1) l) ≡ true = rw x (sym a ∙ c.if-any.true) in
    sym (c.loop-i.invariant ∙ distinct-next l i (omega arith) ∙ rw t)

pub loop-i-preserved : goal.loop-i-preserved
loop-i-preserved c = let u = c.args.u in
    let i = c.loop-i.i in
    let l = take u c.args.t.held in
    let h : length c.args.t.held ≡ 32 = search rules in
    let n : length l ≡ u = length-take-le u c.args.t.held (omega (arith, c.requires)) in
    let x : get_or l i past ≡ get_or c.args.t.held i past = get_or-take u c.args.t.held i past (omega arith) in
    let a : c.any.result ≡ list_any (λ m. same (name_of (get_or c.args.t.held i past)) (name_of m)) (drop (i + 1) l) = any_from_yields_List (λ m. same (name_of (get_or c.args.t.held i past)) (name_of m)) _ _ _ c.any.ensures.ran (YieldsList-from_slice _ (c.iter.ensures.rest ∙ between_is c.args.t.held (i + 1) u)) (λ x b q k. search (rules, tests)) in
    let t : list_any (λ m. same (name_of (get_or l i past)) (name_of m)) (drop (i + 1) l) ≡ false = rw x (sym a ∙ c.if-any.false) in
    c.loop-i.invariant ∙ distinct-next l i (omega arith) ∙ rw t

pub returns : goal.returns
returns c = let u = c.args.u in
    let l = take u c.args.t.held in
    let h : length c.args.t.held ≡ 32 = search rules in
    let n : length l ≡ u = length-take-le u c.args.t.held (omega (arith, c.requires)) in
    sym (c.loop-i.invariant ∙ distinct-end l c.loop-i.i (omega arith))
