-- `open_at` meets its contract: condition 0 is opened by a bracket, any other by ` and `.
use mathlib.Core.Path.{sym, subst}
use Rattle.xml.specs.Bytes.{Bytes, bytes}
use Rattle.keys.specs.AddressParts.{Skipped}
use Rattle.keys.specs.AddressSkips.{open-first, open-later}
use Rattle.keys.proofs.address.open_at.Goals as goal

pub returns-then-j-eq0 : goal.returns-then-j-eq0
unfolding bytes
returns-then-j-eq0 c = let a = c.args in
    let s = a.s.now in
    subst (λ (w : Bytes). Skipped s a.at w c.skip.result) (sym (open-first a.j c.if-j-eq0.true)) c.skip.ensures

pub returns : goal.returns
unfolding bytes
returns c = let a = c.args in
    let s = a.s.now in
    subst (λ (w : Bytes). Skipped s a.at w c.skip-2.result) (sym (open-later a.j c.if-j-eq0.false)) c.skip-2.ensures
