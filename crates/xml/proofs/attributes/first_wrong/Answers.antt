-- `xml::attributes::first_wrong` meets its contract. Assumes nothing.
use native.Mathlib.Omega.{arith}
use Prim.Native.Nat.{ℕ, ◌+◌}
use mathlib.Core.Path.{ap, sym, ◌∙◌}
use mathlib.Core.List.{[]}
use lib.ListN.{drop, length-drop}
use Rattle.xml.specs.Fresh.{fresh_len-fits}
use Rattle.xml.specs.AttrPlaces.{named-never, named-old}
use Rattle.xml.proofs.attributes.first_wrong.Goals as goal
use Rattle.std.specs.Prelude.{Err}

pub returns-then-not-is_fresh : goal.returns-then-not-is_fresh
returns-then-not-is_fresh c = λ used h. sym (named-never used (drop c.args.at c.args.src.now) (sym (c.is_fresh.ensures used h) ∙ c.if-not-is_fresh.true))

pub overflow_add-result : goal.overflow_add-result
overflow_add-result c = let used = c.requires.0.used in
    omega (arith, c.new_len.ensures used c.requires.0.names, fresh_len-fits 32 used [] (drop c.args.at c.args.src.now), length-drop c.args.at c.args.src.now, c.requires.1)

pub returns : goal.returns
returns c = λ used h.
    ap (λ (n : ℕ). Err (1 + n)) (c.new_len.ensures used h)
    ∙ sym (named-old used (drop c.args.at c.args.src.now) (sym (c.is_fresh.ensures used h) ∙ c.if-not-is_fresh.false) (c.requires.3 used h))
