-- `keys::keyed::is_key_value` meets its contract: a sole run of text, by its raw bytes. Assumes nothing.
use native.Mathlib.Omega.{arith}
use mathlib.Core.Path.{sym, ◌∙◌}
use Rattle.xml.specs.TapeLaws.{front, tape-le}
use Rattle.keys.specs.KeyChild.{value_none, value-node, value-more, value-text}
use Rattle.keys.proofs.keyed.is_key_value.Goals as goal

pub returns-then-lo-hi : goal.returns-then-lo-hi
returns-then-lo-hi c f h = sym (value_none h c.if-lo-hi.true)

pub view-v-requires : goal.view-v-requires
view-v-requires c = (front c.requires.tape (omega (arith, tape-le c.requires.tape))).held

pub returns-then-v-ne0 : goal.returns-then-v-ne0
returns-then-v-ne0 c f h = sym (value-node h (rw c.view-v.ensures at c.if-v-ne0.true))

pub returns-then-v-hi : goal.returns-then-v-hi
returns-then-v-hi c f h = sym (value-more h (rw c.view-v.ensures at c.if-v-hi.true))

pub part-requires : goal.part-requires
part-requires c = rw c.view-v.ensures (omega arith, omega (arith, (front c.requires.tape (omega (arith, tape-le c.requires.tape))).within))

pub returns : goal.returns
returns c f h = let v = c.view-v.ensures in
    (rw (c.part.ensures, v) at c.is_value.ensures) ∙ sym (value-text h c.if-lo-hi.false (rw v at c.if-v-ne0.false) (rw v at c.if-v-hi.false))
