use Rattle.std.proofs.Common.{rules, tests, ◌≡◌, sym, ◌∙◌, take}
use Rattle.std.specs.List.{list_all}
use Rattle.std.proofs.lemmas.Iterator.{YieldsList-from_slice}
use Rattle.std.proofs.lemmas.Iterator.Search.{all_from_yields_List}
use Rattle.marks.specs.Judging.{is_entry}
use Rattle.marks.specs.JudgeLaws.{all-is}
use Rattle.marks.proofs.judge.are_entries.Goals as goal

pub returns : goal.returns
returns c = let l = take c.args.u c.args.t.held in
    let e : c.all.result ≡ list_all (is_entry c.args.n) l = all_from_yields_List (is_entry c.args.n) _ _ _ c.all.ensures.ran (YieldsList-from_slice _ c.iter.ensures.rest) (λ x b q k. search (rules, tests)) in
    e ∙ sym (all-is (is_entry c.args.n) l)
