-- `keys::keyed::is_value` meets its contract: a run of 1 to 32 bytes is a value if each byte is a name's. Assumes nothing.
use native.Mathlib.Omega.{arith}
use Rattle.std.proofs.Common.{rules, tests, ◌≡◌, refl, sym, ap, ◌∙◌}
use Rattle.std.specs.Prelude.{Bool, List, [], ◌∷◌, ◌&&◌}
use Rattle.std.specs.List.{list_all}
use Rattle.std.proofs.lemmas.Iterator.{YieldsList-from_slice}
use Rattle.std.proofs.lemmas.Iterator.Search.{all_from_yields_List}
use Rattle.xml.specs.Bytes.{all, is_name_byte}
use Rattle.keys.specs.Values.{value_empty, value_over, value_names}
use Rattle.keys.proofs.keyed.is_value.Goals as goal

all-is : {A : Type 0} (f : A → Bool) (l : List A) → all f l ≡ list_all f l
unfolding all
all-is f [] = refl
all-is f (x ∷ l) = ap (λ b. f x && b) (all-is f l)

pub returns-then-run-lt1 : goal.returns-then-run-lt1
returns-then-run-lt1 c = sym (value_empty c.args.run.now c.if-run-lt1.true)

pub returns-then-run-gt32 : goal.returns-then-run-gt32
returns-then-run-gt32 c = sym (value_over c.args.run.now c.if-run-gt32.true)

pub returns : goal.returns
returns c = let s = c.args.run.now in
    let e : c.all.result ≡ list_all is_name_byte s = all_from_yields_List is_name_byte _ _ _ c.all.ensures.ran (YieldsList-from_slice s (search rules)) (λ x b q k. search (rules, tests)) in
    e ∙ sym (value_names s (omega arith) (omega arith) ∙ all-is is_name_byte s)
