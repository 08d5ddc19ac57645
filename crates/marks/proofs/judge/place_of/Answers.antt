use Rattle.std.proofs.Common.{rules, tests, arith, ◌≡◌, refl, ◌∙◌, length, take, length-take-le}
use Rattle.std.specs.List.{position}
use Rattle.std.proofs.lemmas.Iterator.{YieldsList-from_slice}
use Rattle.std.proofs.lemmas.Iterator.Search.{position_from_yields_List}
use Rattle.xml.specs.Bytes.{same}
use Rattle.marks.specs.Marks.{name_of}
use Rattle.marks.specs.JudgeLaws.{position-placed, place-is}
use Rattle.marks.proofs.judge.place_of.Goals as goal

pub returns : goal.returns
returns c = let x = name_of c.args.m in
    let l = take c.args.u c.args.t.held in
    let h : length c.args.t.held ≡ 32 = search rules in
    let n : length l ≡ c.args.u = length-take-le c.args.u c.args.t.held (omega (arith, c.requires)) in
    let p : c.position.result ≡ position (λ e. same x (name_of e)) l = position_from_yields_List (λ e. same x (name_of e)) _ _ _ c.position.ensures.ran (YieldsList-from_slice _ c.iter.ensures.rest) (λ x b q k. search (rules, tests)) in
    p ∙ position-placed (λ e. same x (name_of e)) l ∙ rw (← place-is x l, n) refl
