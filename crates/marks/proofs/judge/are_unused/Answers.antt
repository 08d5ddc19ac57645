use Rattle.std.proofs.Common.{rules, tests, arith, ◌≡◌, sym, ◌∙◌, length, drop}
use Rattle.std.specs.List.{list_all}
use Rattle.std.proofs.lemmas.Iterator.{YieldsList-from_slice}
use Rattle.std.proofs.lemmas.Iterator.Search.{all_from_yields_List}
use Rattle.std.proofs.lemmas.Slice.{between_to_end}
use Rattle.marks.specs.Marks.{same_mark, unused}
use Rattle.marks.specs.JudgeLaws.{all-is}
use Rattle.marks.proofs.judge.are_unused.Goals as goal

pub returns : goal.returns
returns c = let u = c.args.u in
    let l = drop u c.args.t.held in
    let e : c.all.result ≡ list_all (same_mark unused) l = all_from_yields_List (same_mark unused) _ _ _ c.all.ensures.ran (YieldsList-from_slice _ (c.iter.ensures.rest ∙ between_to_end c.args.t.held u (length c.args.t.held) (omega arith))) (λ x b q k. search (rules, tests)) in
    e ∙ sym (all-is (same_mark unused) l)
