-- `value_len` meets its contract: the first byte that is none of a name ends the run.
use Rattle.std.proofs.Common.{rules, tests, ◌≡◌, ◌∙◌, length, not}
use Rattle.std.proofs.lemmas.Slice.{between_is}
use Rattle.std.proofs.Math.Seq.{slice}
use Rattle.std.specs.List.{position}
use Rattle.std.specs.Option.{unwrap_or}
use Rattle.std.proofs.lemmas.Iterator.{YieldsList-from_slice}
use Rattle.std.proofs.lemmas.Iterator.Search.{position_from_yields_List}
use Rattle.xml.specs.Bytes.{is_name_byte}
use Rattle.keys.specs.Runs.{run-is}
use Rattle.keys.proofs.address.value_len.Goals as goal

pub returns : goal.returns
returns c =
    let rest = slice c.args.at c.min.result c.args.s.now in
    let p : c.position.result ≡ position (λ b. not (is_name_byte b)) rest = position_from_yields_List (λ b. not (is_name_byte b)) _ _ _ c.position.ensures.ran (YieldsList-from_slice rest (simp between_is at c.iter.ensures.rest)) (λ x b q k. search (rules, tests)) in
    let r : c.unwrap_or.result ≡ unwrap_or (position (λ b. not (is_name_byte b)) rest) (length rest) = rw (← p) (simp between_is at c.unwrap_or.ensures) in
    r ∙ run-is c.args.s.now c.args.at c.min.result (simp c.min.ensures) c.requires
