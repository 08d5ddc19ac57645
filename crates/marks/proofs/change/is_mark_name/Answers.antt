use Rattle.std.proofs.Common.{rules, tests, ◌≡◌, sym, ◌∙◌}
use Rattle.std.specs.List.{list_all}
use Rattle.std.proofs.lemmas.Iterator.{YieldsList-from_slice}
use Rattle.std.proofs.lemmas.Iterator.Search.{all_from_yields_List}
use Rattle.xml.specs.Bytes.{is_name_byte}
use Rattle.marks.specs.JudgeLaws.{all-is}
use Rattle.marks.specs.ChangeLaws.{name-empty, name-too-long, name-bytes}
use Rattle.marks.proofs.change.is_mark_name.Goals.{then-name-lt1-via-then-name-lt1, then-name-lt1-via-else-name-lt1+then-name-gt16}
use Rattle.marks.proofs.change.is_mark_name.Goals as goal

pub returns-then-name-lt1 : goal.returns-then-name-lt1
returns-then-name-lt1 c = sym (elim c.then-name-lt1.branch [
  | then-name-lt1-via-then-name-lt1 w ↦ name-empty c.args.name.now w.if-name-lt1.true
  | then-name-lt1-via-else-name-lt1+then-name-gt16 w ↦ name-too-long c.args.name.now w.if-name-gt16.true
])

pub returns : goal.returns
returns c = let s = c.args.name.now in
    let e : c.all.result ≡ list_all is_name_byte s = all_from_yields_List is_name_byte _ _ _ c.all.ensures.ran (YieldsList-from_slice s (search rules)) (λ x b q k. search (rules, tests)) in
    e ∙ sym (name-bytes s c.if-name-lt1.false c.if-name-gt16.false ∙ all-is is_name_byte s)
