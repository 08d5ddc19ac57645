-- `xml::scan::text_byte` meets its contract: a law for each return. Of a byte that means nothing here the class says whether it is legal. Assumes nothing.
use mathlib.Core.Path.{sym, ◌∙◌, subst}
use mathlib.Core.Bool.{true, false}
use Prim.Native.Nat.{◌+◌, ◌≤◌}
use native.Mathlib.Omega.{arith}
use lib.ListN.{length, drop, get_or, length-drop}
use Rattle.std.proofs.Common.{rules}
use denote.Enum.Bare.{same_true, same_false}
use Rattle.xml.specs.contracts.class.ByteClass.{the_type}
use Rattle.xml.specs.ClassNumber.{legal-yes, legal-no}
use Rattle.xml.specs.ScanLaws.{found_len, entity-fits}
use Rattle.xml.specs.TextLaws.{byte-over, byte-hit, byte-miss, byte-bracket, byte-closed, byte-greater, byte-other}
use Rattle.xml.proofs.scan.text_byte.Goals as goal
use Rattle.std.specs.Prelude.{Result, ℕ}

pub returns-then-b-eq60 : goal.returns-then-b-eq60
returns-then-b-eq60 c = sym (byte-over c.args.q (get_or c.args.src.now c.args.at 0) (drop (c.args.at + 1) c.args.src.now) c.if-b-eq60.true)

pub returns-in-Ok : goal.returns-in-Ok
returns-in-Ok c = sym (byte-hit c.args.q (get_or c.args.src.now c.args.at 0) (drop (c.args.at + 1) c.args.src.now) c.in-Ok.k c.in-Ok.field-0-1 c.if-b-eq60.false c.if-b-eq38.true (sym c.entity_at.ensures ∙ c.in-Ok.is))

pub overflow_add-result : goal.overflow_add-result
overflow_add-result c = let s = drop (c.args.at + 1) c.args.src.now in
    let g : c.in-Err.k ≤ length s = subst (λ (o : Result (ℕ × ℕ) ℕ). found_len o ≤ length s) (sym c.entity_at.ensures ∙ c.in-Err.is) (entity-fits s) in
    omega (arith, length-drop (c.args.at + 1) c.args.src.now)

pub returns-in-Err : goal.returns-in-Err
returns-in-Err c = sym (byte-miss c.args.q (get_or c.args.src.now c.args.at 0) (drop (c.args.at + 1) c.args.src.now) c.in-Err.k c.if-b-eq60.false c.if-b-eq38.true (sym c.entity_at.ensures ∙ c.in-Err.is))

pub returns-then-b-eq93 : goal.returns-then-b-eq93
returns-then-b-eq93 c = sym (byte-bracket c.args.q (get_or c.args.src.now c.args.at 0) (drop (c.args.at + 1) c.args.src.now) c.if-b-eq60.false c.if-b-eq38.false c.if-b-eq93.true)

pub returns-then-q-ge2 : goal.returns-then-q-ge2
returns-then-q-ge2 c = sym (byte-closed c.args.q (get_or c.args.src.now c.args.at 0) (drop (c.args.at + 1) c.args.src.now) c.if-b-eq60.false c.if-b-eq38.false c.if-b-eq93.false c.if-b-eq62.true c.if-q-ge2.true)

pub returns-then-b-eq62 : goal.returns-then-b-eq62
returns-then-b-eq62 c = sym (byte-greater c.args.q (get_or c.args.src.now c.args.at 0) (drop (c.args.at + 1) c.args.src.now) c.if-b-eq60.false c.if-b-eq38.false c.if-b-eq93.false c.if-b-eq62.true c.if-q-ge2.false)

pub returns-then-eq : goal.returns-then-eq
returns-then-eq c = let b = get_or c.args.src.now c.args.at 0 in
    sym (byte-other c.args.q b (drop (c.args.at + 1) c.args.src.now) false c.if-b-eq60.false c.if-b-eq38.false c.if-b-eq93.false c.if-b-eq62.false (legal-no b c.class.ensures (same_true the_type (search rules) _ _ (sym c.eq.ensures ∙ c.if-eq.true))))

pub returns : goal.returns
returns c = let b = get_or c.args.src.now c.args.at 0 in
    sym (byte-other c.args.q b (drop (c.args.at + 1) c.args.src.now) true c.if-b-eq60.false c.if-b-eq38.false c.if-b-eq93.false c.if-b-eq62.false (legal-yes b c.class.ensures (same_false the_type _ _ (sym c.eq.ensures ∙ c.if-eq.false))))
