use Rattle.std.proofs.Common.{rules, tests, arith, ◌≡◌, sym, ◌∙◌, length, drop, eqb, true, false}
use Rattle.std.specs.List.{list_all}
use Rattle.std.proofs.lemmas.Iterator.{YieldsList-from_slice}
use Rattle.std.proofs.lemmas.Iterator.Search.{all_from_yields_List}
use Rattle.xml.specs.Bytes.{is_name_byte}
use Rattle.std.proofs.lemmas.Slice.{between_to_end}
use Rattle.marks.specs.Marks.{name_of}
use Rattle.marks.specs.JudgeLaws.{padded-parts, drop-taken}
use Rattle.marks.proofs.Mark.is_padded.Goals as goal

pub returns-then-all : goal.returns-then-all
returns-then-all c = let m = c.args.self.now in
    let a : c.all.result ≡ list_all is_name_byte (name_of m) = all_from_yields_List is_name_byte _ _ _ c.all.ensures.ran (YieldsList-from_slice _ (search rules)) (λ x b q k. search (rules, tests)) in
    let h : length m.name ≡ 16 = search rules in
    let n : c.name_bytes-name.result.now ≡ name_of m = c.name_bytes-name.ensures in
    let r : c.iter-then-all.result.rest.now ≡ drop (length (name_of m)) m.name = c.iter-then-all.ensures.rest ∙ rw n (between_to_end m.name (length (name_of m)) 16 (omega arith)) in
    let z : c.all-then-all.result ≡ list_all (λ b. eqb b 0) (drop (length (name_of m)) m.name) = all_from_yields_List (λ b. eqb b 0) _ _ _ c.all-then-all.ensures.ran (YieldsList-from_slice _ r) (λ x b q k. search (rules, tests)) in
    let t : list_all is_name_byte (name_of m) ≡ true = sym a ∙ c.if-all.true in
    z ∙ sym (padded-parts m.len m.name ∙ rw (t, drop-taken))

pub returns-else-all : goal.returns-else-all
returns-else-all c = let m = c.args.self.now in
    let a : c.all.result ≡ list_all is_name_byte (name_of m) = all_from_yields_List is_name_byte _ _ _ c.all.ensures.ran (YieldsList-from_slice _ (search rules)) (λ x b q k. search (rules, tests)) in
    let t : list_all is_name_byte (name_of m) ≡ false = sym a ∙ c.if-all.false in
    c.if-all.false ∙ sym (padded-parts m.len m.name ∙ rw t)
