use Rattle.std.proofs.Common.{rules, tests, arith, ◌≡◌, sym, ◌∙◌, length, eqb}
use Rattle.std.specs.List.{position}
use Rattle.std.proofs.lemmas.Iterator.{YieldsList-from_slice}
use Rattle.std.proofs.lemmas.Iterator.Search.{position_from_yields_List}
use Rattle.std.specs.Option.{unwrap_or}
use Rattle.marks.specs.declared.Mark.{Mark}
use Rattle.marks.specs.Judging.{used_in}
use Rattle.marks.specs.JudgeLaws.{position-or, used-is, used_le}
use Rattle.marks.proofs.judge.used.Goals as goal

pub returns : goal.returns
returns c = let ms = c.args.t.held in
    let h : length ms ≡ 32 = search rules in
    let p : c.position-end.result ≡ position (λ m. eqb m.len 0) ms = position_from_yields_List (λ m. eqb m.len 0) _ _ _ c.position-end.ensures.ran (YieldsList-from_slice ms (search rules)) (λ x b q k. search (rules, tests)) in
    let r : c.unwrap_or.result ≡ unwrap_or (position (λ (m : Mark). eqb m.len 0) ms) (length ms) = rw (← p, h) c.unwrap_or.ensures in
    let e : c.unwrap_or.result ≡ used_in ms = r ∙ position-or (λ m. eqb m.len 0) ms ∙ sym (used-is ms) in
    let l = used_le ms in (e, omega arith)
