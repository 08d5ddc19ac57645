-- `xml::scan::entity_at` meets its contract: by the five counts. Assumes nothing.
use mathlib.Core.Path.{sym, ◌∙◌}
use lib.ListN.{drop}
use native.Mathlib.Omega.{arith}
use Rattle.xml.specs.Bytes.{bytes}
use Rattle.xml.specs.ScanLaws.{entity-lt, entity-gt, entity-amp, entity-quot, entity-apos, entity-miss}
use Rattle.xml.proofs.scan.entity_at.Goals as goal

pub returns-then-lt-eq3 : goal.returns-then-lt-eq3
unfolding bytes
returns-then-lt-eq3 c = sym
    (entity-lt (drop c.args.at c.args.src.now)
    (sym c.same-lt.ensures ∙ c.if-lt-eq3.true))

pub returns-then-gt-eq3 : goal.returns-then-gt-eq3
unfolding bytes
returns-then-gt-eq3 c = sym
    (entity-gt (drop c.args.at c.args.src.now)
    (λ e. c.if-lt-eq3.false (c.same-lt.ensures ∙ e))
    (sym c.same-gt.ensures ∙ c.if-gt-eq3.true))

pub returns-then-amp-eq4 : goal.returns-then-amp-eq4
unfolding bytes
returns-then-amp-eq4 c = sym
    (entity-amp (drop c.args.at c.args.src.now)
    (λ e. c.if-lt-eq3.false (c.same-lt.ensures ∙ e))
    (λ e. c.if-gt-eq3.false (c.same-gt.ensures ∙ e))
    (sym c.same-amp.ensures ∙ c.if-amp-eq4.true))

pub returns-then-quot-eq5 : goal.returns-then-quot-eq5
unfolding bytes
returns-then-quot-eq5 c = sym
    (entity-quot (drop c.args.at c.args.src.now)
    (λ e. c.if-lt-eq3.false (c.same-lt.ensures ∙ e))
    (λ e. c.if-gt-eq3.false (c.same-gt.ensures ∙ e))
    (λ e. c.if-amp-eq4.false (c.same-amp.ensures ∙ e))
    (sym c.same-quot.ensures ∙ c.if-quot-eq5.true))

pub returns-then-apos-eq5 : goal.returns-then-apos-eq5
unfolding bytes
returns-then-apos-eq5 c = sym
    (entity-apos (drop c.args.at c.args.src.now)
    (λ e. c.if-lt-eq3.false (c.same-lt.ensures ∙ e))
    (λ e. c.if-gt-eq3.false (c.same-gt.ensures ∙ e))
    (λ e. c.if-amp-eq4.false (c.same-amp.ensures ∙ e))
    (λ e. c.if-quot-eq5.false (c.same-quot.ensures ∙ e))
    (sym c.same-apos.ensures ∙ c.if-apos-eq5.true))

pub returns : goal.returns
unfolding bytes
returns c = entity-miss (drop c.args.at c.args.src.now) _ _ _ _ _ _ _ _ _ _
    c.same-lt.ensures
    c.same-gt.ensures
    c.same-amp.ensures
    c.same-quot.ensures
    c.same-apos.ensures
    c.if-lt-eq3.false
    c.if-gt-eq3.false
    c.if-amp-eq4.false
    c.if-quot-eq5.false
    c.if-apos-eq5.false
    (omega arith)
    c.max.ensures
    c.max-2.ensures
    c.max-3.ensures
    c.max-4.ensures
