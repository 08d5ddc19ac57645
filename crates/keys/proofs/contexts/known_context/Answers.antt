-- The last line's context, and after a slash its name.
use Prim.Native.Nat.{◌+◌}
use native.Mathlib.Omega.{arith}
use mathlib.Core.Path.{sym, ◌∙◌}
use Rattle.keys.proofs.ContextLaws.{whole-within, known-none, known_shared, known-below}
use Rattle.keys.proofs.contexts.known_context.Goals as goal

pub returns-then-not-stand_whole : goal.returns-then-not-stand_whole
returns-then-not-stand_whole c = λ K l. known-none c.args.text.now c.args.at c.requires.2 K

pub returns-then-byte_at-ne47 : goal.returns-then-byte_at-ne47
returns-then-byte_at-ne47 c = λ K l. known_shared c.args.text.now c.args.at c.requires.2 l (sym c.stand_whole.ensures ∙ c.if-not-stand_whole.false)

pub stand_whole-requires-2 : goal.stand_whole-requires-2
stand_whole-requires-2 c = let p = c.requires.0 in
    let w = whole-within c.args.text.now (c.args.at + 1) c.args.last.start c.args.last.end (omega (arith, p.to, p.within)) (omega (arith, c.requires.2)) (sym c.stand_whole.ensures ∙ c.if-not-stand_whole.false) in
    (omega arith, p.to, p.within)

pub returns-then-not-stand_whole-2 : goal.returns-then-not-stand_whole-2
returns-then-not-stand_whole-2 c = λ K l. known_shared c.args.text.now c.args.at c.requires.2 l (sym c.stand_whole.ensures ∙ c.if-not-stand_whole.false)

pub returns : goal.returns
returns c = λ K l. known-below c.args.text.now c.args.at c.requires.2 l (sym c.stand_whole.ensures ∙ c.if-not-stand_whole.false) (sym c.byte_at.ensures ∙ c.if-byte_at-ne47.false) (sym c.stand_whole-2.ensures ∙ c.if-not-stand_whole-2.false)
