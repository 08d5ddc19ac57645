use mathlib.Core.Path.{◌≡◌, refl, sym, ◌∙◌}
use mathlib.Core.Bool.{true, false}
use lib.ListN.{length}
use Rattle.marks.specs.JudgeLaws.{judged-small, judged-by}
use Rattle.marks.proofs.judge.judge.Goals as goal

pub returns-then-size-ne32 : goal.returns-then-size-ne32
returns-then-size-ne32 c = judged-small c.args.n c.args.t c.requires c.if-size-ne32.true

pub returns-then-not-are_entries : goal.returns-then-not-are_entries
returns-then-not-are_entries c = let t = c.args.t in
    let h : length t.held ≡ 32 = c.well_formed.0.1.1.0.1.0.1 in
    sym (judged-by c.args.n t h c.if-size-ne32.false c.used-u.result false _ _ c.used-u.ensures.0 (sym c.are_entries.ensures ∙ c.if-not-are_entries.true) refl refl)

pub returns-then-not-are_distinct : goal.returns-then-not-are_distinct
returns-then-not-are_distinct c = let t = c.args.t in
    let h : length t.held ≡ 32 = c.well_formed.0.1.1.0.1.0.1 in
    sym (judged-by c.args.n t h c.if-size-ne32.false c.used-u.result true false _ c.used-u.ensures.0 (sym c.are_entries.ensures ∙ c.if-not-are_entries.false) (sym c.are_distinct.ensures ∙ c.if-not-are_distinct.true) refl)

pub returns-then-not-are_unused : goal.returns-then-not-are_unused
returns-then-not-are_unused c = let t = c.args.t in
    let h : length t.held ≡ 32 = c.well_formed.0.1.1.0.1.0.1 in
    sym (judged-by c.args.n t h c.if-size-ne32.false c.used-u.result true true false c.used-u.ensures.0 (sym c.are_entries.ensures ∙ c.if-not-are_entries.false) (sym c.are_distinct.ensures ∙ c.if-not-are_distinct.false) (sym c.are_unused.ensures ∙ c.if-not-are_unused.true))

pub returns : goal.returns
returns c = let t = c.args.t in
    let h : length t.held ≡ 32 = c.well_formed.0.1.1.0.1.0.1 in
    sym (judged-by c.args.n t h c.if-size-ne32.false c.used-u.result true true true c.used-u.ensures.0 (sym c.are_entries.ensures ∙ c.if-not-are_entries.false) (sym c.are_distinct.ensures ∙ c.if-not-are_distinct.false) (sym c.are_unused.ensures ∙ c.if-not-are_unused.false))
