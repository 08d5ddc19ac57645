-- `xml::attributes::after_name` meets its contract: a law for each return (AttrPlaces). Assumes nothing.
use Prim.Native.Nat.{◌+◌}
use native.Mathlib.Omega.{arith}
use mathlib.Core.Path.{sym, ◌∙◌}
use lib.ListN.{drop, length-drop}
use Rattle.xml.specs.AttrPlaces.{new-unnamed, new-unquoted, new-stops, new-goes, name_in_lem, quote-here, value_in_lem}
use Rattle.xml.proofs.attributes.after_name.Goals as goal
use Rattle.std.specs.Prelude.{Ok, Err}

pub overflow_add-at : goal.overflow_add-at
overflow_add-at c = omega (arith, name_in_lem c.args.src.now c.args.at c.args.m c.requires.0 c.requires.2)

pub overflow_add-result : goal.overflow_add-result
overflow_add-result c = omega (arith, name_in_lem c.args.src.now c.args.at c.args.m c.requires.0 c.requires.2)

pub returns-then-byte_at-ne61 : goal.returns-then-byte_at-ne61
returns-then-byte_at-ne61 c = λ used h. sym (new-unnamed used c.args.src.now c.args.at c.args.m c.requires.2 h (λ e. c.if-byte_at-ne61.true (c.byte_at.ensures ∙ e)))

pub overflow_add-at-2 : goal.overflow_add-at-2
overflow_add-at-2 c = omega (arith, name_in_lem c.args.src.now c.args.at c.args.m c.requires.0 c.requires.2)

pub overflow_add-at-3 : goal.overflow_add-at-3
overflow_add-at-3 c = omega (arith, name_in_lem c.args.src.now c.args.at c.args.m c.requires.0 c.requires.2)

pub overflow_add-result-then-not-is_quote : goal.overflow_add-result-then-not-is_quote
overflow_add-result-then-not-is_quote c = omega (arith, name_in_lem c.args.src.now c.args.at c.args.m c.requires.0 c.requires.2)

pub returns-then-not-is_quote : goal.returns-then-not-is_quote
returns-then-not-is_quote c = λ used h. sym (new-unquoted used c.args.src.now c.args.at c.args.m c.requires.2 h (sym c.byte_at.ensures ∙ c.if-byte_at-ne61.false) c.byte_at-q.result c.byte_at-q.ensures (sym c.is_quote.ensures ∙ c.if-not-is_quote.true))

pub overflow_add-at-4 : goal.overflow_add-at-4
overflow_add-at-4 c = omega (arith, name_in_lem c.args.src.now c.args.at c.args.m c.requires.0 c.requires.2)

pub overflow_add-at-5 : goal.overflow_add-at-5
overflow_add-at-5 c = omega (arith, name_in_lem c.args.src.now c.args.at c.args.m c.requires.0 c.requires.2)

pub value_run-requires : goal.value_run-requires
value_run-requires c = let h = quote-here c.args.src.now (c.args.at + c.args.m + 1) c.byte_at-q.result c.byte_at-q.ensures (sym c.is_quote.ensures ∙ c.if-not-is_quote.false) in omega arith

pub overflow_add-result-in-Ok : goal.overflow_add-result-in-Ok
overflow_add-result-in-Ok c = omega (arith, name_in_lem c.args.src.now c.args.at c.args.m c.requires.0 c.requires.2)

pub overflow_add-result-in-Ok-2 : goal.overflow_add-result-in-Ok-2
overflow_add-result-in-Ok-2 c = omega (arith, name_in_lem c.args.src.now c.args.at c.args.m c.requires.0 c.requires.2, c.requires.1, value_in_lem c.byte_at-q.result (drop (c.args.at + c.args.m + 2) c.args.src.now) (Ok c.in-Ok.n) (sym c.value_run.ensures ∙ c.in-Ok.is), length-drop (c.args.at + c.args.m + 2) c.args.src.now)

pub overflow_add-result-in-Err : goal.overflow_add-result-in-Err
overflow_add-result-in-Err c = omega (arith, name_in_lem c.args.src.now c.args.at c.args.m c.requires.0 c.requires.2)

pub overflow_add-result-in-Err-2 : goal.overflow_add-result-in-Err-2
overflow_add-result-in-Err-2 c = omega (arith, name_in_lem c.args.src.now c.args.at c.args.m c.requires.0 c.requires.2, c.requires.1, value_in_lem c.byte_at-q.result (drop (c.args.at + c.args.m + 2) c.args.src.now) (Err c.in-Err.n) (sym c.value_run.ensures ∙ c.in-Err.is), length-drop (c.args.at + c.args.m + 2) c.args.src.now)

pub returns-in-Ok : goal.returns-in-Ok
returns-in-Ok c = λ used h.
    sym (new-goes used c.args.src.now c.args.at c.args.m c.requires.2 h (sym c.byte_at.ensures ∙ c.if-byte_at-ne61.false) c.byte_at-q.result c.byte_at-q.ensures (sym c.is_quote.ensures ∙ c.if-not-is_quote.false) c.in-Ok.n
    (sym c.value_run.ensures ∙ c.in-Ok.is))

pub returns-in-Err : goal.returns-in-Err
returns-in-Err c = λ used h.
    sym (new-stops used c.args.src.now c.args.at c.args.m c.requires.2 h (sym c.byte_at.ensures ∙ c.if-byte_at-ne61.false) c.byte_at-q.result c.byte_at-q.ensures (sym c.is_quote.ensures ∙ c.if-not-is_quote.false) c.in-Err.n
    (sym c.value_run.ensures ∙ c.in-Err.is))
