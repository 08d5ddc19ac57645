-- `same_step` meets its contract: where the names are the same, both have the key names of one path.
use Rattle.std.proofs.lemmas.Slice.{between_is}
use native.Mathlib.Omega.{arith}
use mathlib.Core.Path.{sym, ◌∙◌, ap, subst}
use mathlib.Core.List.{[]}
use lib.ListN.{length, get_or}
use Rattle.keys.specs.KeyList.{Path, key_names_at}
use Rattle.keys.specs.Version.{◌▸◌}
use Rattle.keys.specs.Table.{place_of}
use Rattle.keys.specs.AddressParts.{Inside}
use Rattle.keys.specs.SameStep.{named_other, named-same, named-on}
use Rattle.keys.proofs.address.same_step.Goals as goal

pub part-requires : goal.part-requires
part-requires c = let h = c.requires.0 in
    let a = c.args in
    let s = a.s.now in
    rw c.view-v.ensures (omega arith, h.node.within)

pub returns-then-not-same_bytes : goal.returns-then-not-same_bytes
returns-then-not-same_bytes c = λ K q l t x m k d y.
    let h = c.requires.0 in
    let a = c.args in
    let s = a.s.now in
    named_other K s l q x m k (sym (rw (c.part.ensures, c.view-v.ensures, d.bytes-are) at (simp between_is at c.same_bytes.ensures)) ∙ c.if-not-same_bytes.true)

pub same_keys-requires : goal.same_keys-requires
same_keys-requires c = let h = c.requires.0 in
    let a = c.args in
    let s = a.s.now in
    let e = named-same h.key_list s h.step h.path h.step_is h.called-as h.kids (sym (rw (c.part.ensures, c.view-v.ensures, h.node.bytes-are) at (simp between_is at c.same_bytes.ensures)) ∙ c.if-not-same_bytes.false) in
    rw c.view-v.ensures (record { keyed = record { key_list = h.key_list; path = h.path ▸ h.called-as; tabled = h.tabled; place_is = ap (place_of h.key_list) (sym e) ∙ sym h.step_is.place_is; kids = h.kids; tape = h.tape; once = h.once }; inside = subst (λ (z : Path). Inside s (length (key_names_at h.key_list z)) (get_or a.values a.i [])) e h.step_is.values-inside })

pub returns : goal.returns
returns c = λ K q l t x m k d y.
    let h = c.requires.0 in
    let a = c.args in
    let s = a.s.now in
    let e = sym (rw (c.part.ensures, c.view-v.ensures, d.bytes-are) at (simp between_is at c.same_bytes.ensures)) ∙ c.if-not-same_bytes.false in
    named-on K s l q x m k e ((rw c.view-v.ensures at c.same_keys.ensures) K (q ▸ m) t (ap (place_of K) (sym (named-same K s l q x m k e)) ∙ sym x.place_is) k y)
