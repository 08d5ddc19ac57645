use mathlib.Core.Path.{◌≡◌, sym, ◌∙◌, ap}
use mathlib.Core.Bool.{true}
use Rattle.std.proofs.Common.{refl}
use Rattle.marks.specs.Marks.{is_mark_name}
use Rattle.marks.specs.Changing.{version_in}
use Rattle.marks.specs.ChangeLaws.{name-fits, place-some, place-none, find-unnamed, find-missing, find-put}
use Rattle.marks.proofs.change.find_among.Goals as goal

pub returns-then-not-is_mark_name : goal.returns-then-not-is_mark_name
returns-then-not-is_mark_name c = let n = sym c.is_mark_name.ensures ∙ c.if-not-is_mark_name.true in
    λ ks e g. ap version_in (sym (find-unnamed ks c.args.name.now n))

pub named_mark-m-requires : goal.named_mark-m-requires
named_mark-m-requires c = name-fits c.args.name.now (sym c.is_mark_name.ensures ∙ c.if-not-is_mark_name.false)

pub returns-in_default : goal.returns-in_default
returns-in_default c =
    let a = c.args in
    let named : is_mark_name a.name.now ≡ true = sym c.is_mark_name.ensures ∙ c.if-not-is_mark_name.false in
    λ ks e g. ap version_in (sym (find-missing ks a.name.now named (place-none a.name.now 0 ks a.t.held a.u e g c.named_mark-m.ensures _ refl c.in_default.ensures)))

pub returns : goal.returns
returns c =
    let a = c.args in
    let named : is_mark_name a.name.now ≡ true = sym c.is_mark_name.ensures ∙ c.if-not-is_mark_name.false in
    λ ks e g. let p = place-some a.name.now 0 ks a.t.held a.u e g c.named_mark-m.ensures c.in-Some.ensures in
    rw c.from.ensures (find-put ks a.t.held a.name.now c.in-Some.i e named p.0 p.1)
