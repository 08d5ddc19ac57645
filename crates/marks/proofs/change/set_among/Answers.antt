use native.Mathlib.Omega.{arith}
use mathlib.Core.Path.{◌≡◌, sym, ◌∙◌, ap}
use mathlib.Core.Bool.{true}
use mathlib.Core.List.{List, map}
use lib.ListN.{length}
use Rattle.std.proofs.Common.{◌≤◌}
use Rattle.marks.specs.Marks.{Named, is_mark_name, entries}
use Rattle.marks.specs.Judging.{place_in}
use Rattle.marks.specs.Changing.{mark_named, tabled}
use Rattle.marks.specs.ChangeLaws.{name-fits, place-held, place-none, set-unnamed, set-held, set_full, set-zero, set-later, set-done, set-put}
use Rattle.marks.proofs.change.set_among.Goals as goal

pub returns-then-not-is_mark_name : goal.returns-then-not-is_mark_name
returns-then-not-is_mark_name c = let a = c.args in
    let n = sym c.is_mark_name.ensures ∙ c.if-not-is_mark_name.true in
    λ ks e g. ap (tabled) (sym (set-unnamed a.n ks a.name.now a.version n))

pub named_mark-m-requires : goal.named_mark-m-requires
named_mark-m-requires c = name-fits c.args.name.now (sym c.is_mark_name.ensures ∙ c.if-not-is_mark_name.false)

pub returns-then-is_some : goal.returns-then-is_some
returns-then-is_some c =
    let a = c.args in
    let named : is_mark_name a.name.now ≡ true = sym c.is_mark_name.ensures ∙ c.if-not-is_mark_name.false in
    λ ks e g. ap (tabled) (sym (set-held a.n ks a.name.now a.version named (place-held a.name.now 0 ks a.t.held a.u e g c.named_mark-m.ensures c.place_of.result (sym c.is_some.ensures ∙ c.if-is_some.true) c.place_of.ensures)))

pub returns-then-u-eq32 : goal.returns-then-u-eq32
returns-then-u-eq32 c =
    let a = c.args in
    let named : is_mark_name a.name.now ≡ true = sym c.is_mark_name.ensures ∙ c.if-not-is_mark_name.false in
    let free : (ks : List Named) → a.t.held ≡ entries ks → length ks ≡ a.u → length ks ≤ place_in a.name.now (map (λ k. k.name) ks) = λ ks e g. place-none a.name.now 0 ks a.t.held a.u e g c.named_mark-m.ensures c.place_of.result (sym c.is_some.ensures ∙ c.if-is_some.false) c.place_of.ensures in
    λ ks e g. ap (tabled) (sym (set_full a.n ks a.name.now a.version named (free ks e g) (g ∙ c.if-u-eq32.true)))

pub returns-then-version-lt1 : goal.returns-then-version-lt1
returns-then-version-lt1 c =
    let a = c.args in
    let named : is_mark_name a.name.now ≡ true = sym c.is_mark_name.ensures ∙ c.if-not-is_mark_name.false in
    let free : (ks : List Named) → a.t.held ≡ entries ks → length ks ≡ a.u → length ks ≤ place_in a.name.now (map (λ k. k.name) ks) = λ ks e g. place-none a.name.now 0 ks a.t.held a.u e g c.named_mark-m.ensures c.place_of.result (sym c.is_some.ensures ∙ c.if-is_some.false) c.place_of.ensures in
    λ ks e g. ap (tabled) (sym (set-zero a.n ks a.name.now a.version named (free ks e g) (λ z. c.if-u-eq32.false (sym g ∙ z)) c.if-version-lt1.true))

pub returns-then-n-version : goal.returns-then-n-version
returns-then-n-version c =
    let a = c.args in
    let named : is_mark_name a.name.now ≡ true = sym c.is_mark_name.ensures ∙ c.if-not-is_mark_name.false in
    let free : (ks : List Named) → a.t.held ≡ entries ks → length ks ≡ a.u → length ks ≤ place_in a.name.now (map (λ k. k.name) ks) = λ ks e g. place-none a.name.now 0 ks a.t.held a.u e g c.named_mark-m.ensures c.place_of.result (sym c.is_some.ensures ∙ c.if-is_some.false) c.place_of.ensures in
    λ ks e g. ap (tabled) (sym (set-later a.n ks a.name.now a.version named (free ks e g) (λ z. c.if-u-eq32.false (sym g ∙ z)) c.if-version-lt1.false c.if-n-version.true))

pub named_mark-requires : goal.named_mark-requires
named_mark-requires c = name-fits c.args.name.now (sym c.is_mark_name.ensures ∙ c.if-not-is_mark_name.false)

pub returns : goal.returns
returns c =
    let a = c.args in
    let named : is_mark_name a.name.now ≡ true = sym c.is_mark_name.ensures ∙ c.if-not-is_mark_name.false in
    let free : (ks : List Named) → a.t.held ≡ entries ks → length ks ≡ a.u → length ks ≤ place_in a.name.now (map (λ k. k.name) ks) = λ ks e g. place-none a.name.now 0 ks a.t.held a.u e g c.named_mark-m.ensures c.place_of.result (sym c.is_some.ensures ∙ c.if-is_some.false) c.place_of.ensures in
    let s = a.name.now in
    λ ks e g.
    set-put a.t ks (mark_named s a.version) c.named_mark.result a.u e g (omega (arith, c.if-u-eq32.false)) c.named_mark.ensures
    ∙ ap (tabled) (sym (set-done a.n ks s a.version named (free ks e g) (λ z. c.if-u-eq32.false (sym g ∙ z)) c.if-version-lt1.false c.if-n-version.false))
