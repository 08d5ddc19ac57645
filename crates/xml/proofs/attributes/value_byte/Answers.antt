-- `xml::attributes::value_byte` meets its contract: a law for each return. Assumes nothing.
use mathlib.Core.Path.{sym, ◌∙◌, subst}
use Prim.Native.Nat.{◌+◌, ◌≤◌}
use native.Mathlib.Omega.{arith}
use lib.ListN.{length, drop, get_or, length-drop}
use Rattle.xml.specs.ScanLaws.{found_len, entity-fits}
use Rattle.xml.specs.Values.{value-over, value-hit, value-miss, value-kept, value-off}
use Rattle.xml.specs.ValueBytes.{in-plain, in-less, in-other}
use Rattle.xml.proofs.attributes.value_byte.Goals as goal
use Rattle.std.specs.Prelude.{Result, ℕ}

pub returns-then-b-q : goal.returns-then-b-q
returns-then-b-q c = sym (value-over c.args.q (get_or c.args.src.now c.args.at 0) (drop (c.args.at + 1) c.args.src.now) c.if-b-q.true)

pub returns-in-Ok : goal.returns-in-Ok
returns-in-Ok c = sym (value-hit c.args.q (get_or c.args.src.now c.args.at 0) (drop (c.args.at + 1) c.args.src.now) c.in-Ok.k c.in-Ok.field-0-1 c.if-b-q.false c.if-b-eq38.true (sym c.entity_at.ensures ∙ c.in-Ok.is))

pub overflow_add-result : goal.overflow_add-result
overflow_add-result c = let s = drop (c.args.at + 1) c.args.src.now in
    let g : c.in-Err.k ≤ length s = subst (λ (o : Result (ℕ × ℕ) ℕ). found_len o ≤ length s) (sym c.entity_at.ensures ∙ c.in-Err.is) (entity-fits s) in
    omega (arith, length-drop (c.args.at + 1) c.args.src.now)

pub returns-in-Err : goal.returns-in-Err
returns-in-Err c = sym (value-miss c.args.q (get_or c.args.src.now c.args.at 0) (drop (c.args.at + 1) c.args.src.now) c.in-Err.k c.if-b-q.false c.if-b-eq38.true (sym c.entity_at.ensures ∙ c.in-Err.is))

pub returns-then-b-eq60 : goal.returns-then-b-eq60
returns-then-b-eq60 c = let b = get_or c.args.src.now c.args.at 0 in
    sym (value-off c.args.q b (drop (c.args.at + 1) c.args.src.now) c.if-b-q.false c.if-b-eq38.false (in-less c.args.q b c.if-b-eq60.true))

pub returns-then-not-is_printed : goal.returns-then-not-is_printed
returns-then-not-is_printed c = let b = get_or c.args.src.now c.args.at 0 in
    sym (value-off c.args.q b (drop (c.args.at + 1) c.args.src.now) c.if-b-q.false c.if-b-eq38.false (in-other c.args.q b (sym c.is_printed.ensures ∙ c.if-not-is_printed.true)))

pub returns : goal.returns
returns c = let b = get_or c.args.src.now c.args.at 0 in
    sym (value-kept c.args.q b (drop (c.args.at + 1) c.args.src.now) c.if-b-q.false c.if-b-eq38.false
    (in-plain c.args.q b (sym c.is_printed.ensures ∙ c.if-not-is_printed.false) c.if-b-eq60.false c.if-b-eq38.false c.if-b-q.false))
