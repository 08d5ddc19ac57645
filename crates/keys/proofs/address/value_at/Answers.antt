-- `value_at` meets its contract: one law a return.
use mathlib.Core.Path.{sym, ◌∙◌}
use Rattle.keys.specs.AddressSkips.{quoted-out, quoted-empty, quoted-long, quoted-open, quoted-read}
use Rattle.keys.proofs.address.value_at.Goals as goal

pub returns-then-s-at : goal.returns-then-s-at
returns-then-s-at c = let a = c.args in let s = a.s.now in quoted-out s a.at c.if-s-at.true

pub returns-then-m-eq0 : goal.returns-then-m-eq0
returns-then-m-eq0 c = let a = c.args in
    let s = a.s.now in
    quoted-empty s a.at c.value_len-m.result c.if-s-at.false c.value_len-m.ensures c.if-m-eq0.true

pub returns-then-m-gt32 : goal.returns-then-m-gt32
returns-then-m-gt32 c = let a = c.args in
    let s = a.s.now in
    quoted-long s a.at c.value_len-m.result c.if-s-at.false c.value_len-m.ensures c.if-m-gt32.true

pub returns-then-byte_at-ne34 : goal.returns-then-byte_at-ne34
returns-then-byte_at-ne34 c = let a = c.args in
    let s = a.s.now in
    quoted-open s a.at c.value_len-m.result c.if-s-at.false c.value_len-m.ensures (λ q. c.if-byte_at-ne34.true (c.byte_at.ensures ∙ q))

pub returns : goal.returns
returns c = let a = c.args in
    let s = a.s.now in
    quoted-read s a.at c.value_len-m.result c.if-s-at.false c.value_len-m.ensures c.if-m-eq0.false c.if-m-gt32.false (sym c.byte_at.ensures ∙ c.if-byte_at-ne34.false)
