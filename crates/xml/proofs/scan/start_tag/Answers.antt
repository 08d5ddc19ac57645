-- `xml::scan::start_tag` meets its contract: a law for each return (Tags). Assumes nothing.
use mathlib.Core.Path.{subst, sym, ◌∙◌}
use Prim.Native.Nat.{◌+◌}
use native.Mathlib.Omega.{arith}
use lib.ListN.{drop}
use Rattle.std.proofs.lemmas.Result.{err_from_is_err_and}
use Rattle.xml.specs.Tokens.{TimesRead}
use Rattle.xml.proofs.Tags.{times-begun, times-here, name_in_lem, none_here, opens-here, other-here, lone-here, slash-here}
use Rattle.xml.proofs.scan.start_tag.Goals as goal
use Rattle.std.specs.Prelude.{Ok, Err}

pub times_tag-requires : goal.times_tag-requires
times_tag-requires c = times-begun c.args.archive c.args.src.now c.args.at (sym c.begins_times.ensures ∙ c.if-begins_times.true)

pub returns-then-begins_times : goal.returns-then-begins_times
returns-then-begins_times c = times-here c.args.archive c.args.src.now c.args.at (sym c.begins_times.ensures ∙ c.if-begins_times.true) (Ok c.in_ok-times_tag.field-0) (subst (TimesRead (drop (c.args.at + 1) c.args.src.now)) c.in_ok-times_tag.was c.times_tag.ensures)

pub returns-in_err-times_tag : goal.returns-in_err-times_tag
returns-in_err-times_tag c = let p = err_from_is_err_and c.from_residual.result c.from_residual.ensures.1 in rw (p.1, p.2) (times-here c.args.archive c.args.src.now c.args.at (sym c.begins_times.ensures ∙ c.if-begins_times.true) (Err c.in_err-times_tag.field-0.0) (subst (TimesRead (drop (c.args.at + 1) c.args.src.now)) c.in_err-times_tag.was c.times_tag.ensures))

pub returns-then-n-eq0 : goal.returns-then-n-eq0
returns-then-n-eq0 c = none_here c.args.archive c.args.src.now c.args.at c.requires c.name_len-n.ensures c.if-n-eq0.true

pub overflow_add-at-2 : goal.overflow_add-at-2
overflow_add-at-2 c = omega (arith, name_in_lem c.args.archive c.args.src.now c.args.at c.requires c.name_len-n.ensures)

pub returns-then-b-eq62 : goal.returns-then-b-eq62
returns-then-b-eq62 c = opens-here c.args.archive c.args.src.now c.args.at c.requires c.name_len-n.ensures c.byte_at-b.ensures c.if-n-eq0.false c.if-b-eq62.true

pub overflow_add-result : goal.overflow_add-result
overflow_add-result c = omega (arith, name_in_lem c.args.archive c.args.src.now c.args.at c.requires c.name_len-n.ensures)

pub returns-then-b-ne47 : goal.returns-then-b-ne47
returns-then-b-ne47 c = other-here c.args.archive c.args.src.now c.args.at c.requires c.name_len-n.ensures c.byte_at-b.ensures c.if-n-eq0.false c.if-b-eq62.false c.if-b-ne47.true (sym c.begins_times.ensures ∙ c.if-begins_times.false)

pub overflow_add-at-3 : goal.overflow_add-at-3
overflow_add-at-3 c = omega (arith, name_in_lem c.args.archive c.args.src.now c.args.at c.requires c.name_len-n.ensures)

pub overflow_add-at-4 : goal.overflow_add-at-4
overflow_add-at-4 c = omega (arith, name_in_lem c.args.archive c.args.src.now c.args.at c.requires c.name_len-n.ensures)

pub overflow_add-result-then-byte_at-ne62 : goal.overflow_add-result-then-byte_at-ne62
overflow_add-result-then-byte_at-ne62 c = omega (arith, name_in_lem c.args.archive c.args.src.now c.args.at c.requires c.name_len-n.ensures)

pub returns-then-byte_at-ne62 : goal.returns-then-byte_at-ne62
returns-then-byte_at-ne62 c = slash-here c.args.archive c.args.src.now c.args.at c.requires c.name_len-n.ensures c.byte_at-b.ensures c.if-n-eq0.false c.if-b-eq62.false c.byte_at.ensures c.if-b-ne47.false c.if-byte_at-ne62.true

pub returns : goal.returns
returns c = lone-here c.args.archive c.args.src.now c.args.at c.requires c.name_len-n.ensures c.byte_at-b.ensures c.if-n-eq0.false c.if-b-eq62.false c.byte_at.ensures c.if-b-ne47.false c.if-byte_at-ne62.false
