-- `xml::attributes::is_fresh` meets its contract. The invariant: none of the bytes before c can follow. Assumes nothing.
use Prim.Native.Nat.{◌+◌, ◌-◌}
use native.Mathlib.Nat.{not-suc-le-zero}
use native.Mathlib.Omega.{arith}
use mathlib.Core.Path.{refl, sym, ◌∙◌}
use lib.ListN.{take}
use lib.Seq.{length-take-le}
use Rattle.xml.specs.Fresh.{fresh-new}
use Rattle.xml.specs.FreshNames.{begins-name, fresh-never, fresh-full, tried-hit, tried-none, tried-more, longer-fresh}
use Rattle.xml.proofs.attributes.+is_fresh.Goals as goal

pub returns-then-name_len-len : goal.returns-then-name_len-len
returns-then-name_len-len t c = λ used h. sym (fresh-never used (take c.args.len c.args.name) (32 - c.args.len) (omega (arith, c.name_len.ensures, c.if-name_len-len.true, length-take-le c.args.len c.args.name (omega (arith, c.requires.2)))))

pub is_new-requires : goal.is_new-requires
is_new-requires t c = (c.requires.0, c.requires.1, begins-name (take c.args.len c.args.name) (omega (arith, c.name_len.ensures, c.if-name_len-len.false, length-take-le c.args.len c.args.name (omega (arith, c.requires.2)))))

pub returns-then-is_new : goal.returns-then-is_new
returns-then-is_new t c = λ used h. sym (fresh-new (32 - c.args.len) used (take c.args.len c.args.name) (sym (c.is_new.ensures used h) ∙ c.if-is_new.true))

pub returns-then-len-eq32 : goal.returns-then-len-eq32
returns-then-len-eq32 t c = λ used h. sym (fresh-full used (take c.args.len c.args.name) (32 - c.args.len) (sym (c.is_new.ensures used h) ∙ c.if-is_new.false) (omega arith))

pub loop-c-init : goal.loop-c-init
loop-c-init t c = (omega arith, λ used h d l. absurd (not-suc-le-zero l))

pub is_fresh-requires : goal.is_fresh-requires
is_fresh-requires t c = (omega (arith, c.decreases, c.requires.2), (c.requires.0, c.requires.1, omega (arith, c.requires.2)))

pub returns-then-is_fresh : goal.returns-then-is_fresh
returns-then-is_fresh t c = λ used h. sym (tried-hit used (take c.args.len c.args.name) (31 - c.args.len) c.loop-c.c (32 - c.args.len) (longer-fresh used c.args.name c.args.len c.loop-c.c _ (omega arith) (omega (arith, c.requires.2)) (c.is_fresh.ensures used h) ∙ c.if-is_fresh.true) (omega (arith, c.requires.2)))

pub loop-c-preserved : goal.loop-c-preserved
loop-c-preserved t c = (omega arith, λ used h. tried-more used (take c.args.len c.args.name) (31 - c.args.len) c.loop-c.c (c.loop-c.c + 1) (c.loop-c.invariant.1 used h) (longer-fresh used c.args.name c.args.len c.loop-c.c _ (omega arith) (omega (arith, c.requires.2)) (c.is_fresh.ensures used h) ∙ c.if-is_fresh.false) refl)

pub returns : goal.returns
returns t c = λ used h. sym (tried-none used (take c.args.len c.args.name) (31 - c.args.len) (32 - c.args.len) (sym (c.is_new.ensures used h) ∙ c.if-is_new.false) (begins-name (take c.args.len c.args.name) (omega (arith, c.name_len.ensures, c.if-name_len-len.false, length-take-le c.args.len c.args.name (omega (arith, c.requires.2))))) (λ d l. c.loop-c.invariant.1 used h d (omega (arith, c.loop-c.invariant.0))) (omega (arith, c.requires.2)))
