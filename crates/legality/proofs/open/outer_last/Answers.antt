-- `legality::open::outer_last` meets its contract: a text that is read as no set, as another than 1 to n, or as this. Assumes nothing.
use Prim.Native.Nat.{ℕ, ◌-◌}
use native.Mathlib.Omega.{arith}
use mathlib.Core.Path.{sym, ◌∙◌, ap}
use Rattle.timestamp.specs.Set.{set_of}
use Rattle.timestamp.specs.First.{first-low, member-found, member-missed}
use Rattle.versions.specs.OuterTimes.{outer-refused, outer-none, outer-other, outer_same}
use Rattle.legality.proofs.open.outer_last.Goals as goal

pub returns-in_default : goal.returns-in_default
returns-in_default c = sym (outer-refused _ (sym c.in_default.ensures))

pub returns-in_default-next : goal.returns-in_default-next
returns-in_default-next c = sym (outer-none _ (set_of c.in-Some.set.words) (set_of c.complement.result.words) (sym c.in-Some.ensures) c.complement.ensures
    (member-missed (set_of c.complement.result.words) 1 c.in_default-next.ensures))

pub overflow_sub-n : goal.overflow_sub-n
overflow_sub-n c = let g = set_of c.complement.result.words in omega (arith, (member-found g 1 c.in-Some-next.ensures).0, first-low g (1024 - 1) 1)

pub up_to-requires : goal.up_to-requires
up_to-requires c = omega (arith, (member-found (set_of c.complement.result.words) 1 c.in-Some-next.ensures).1)

pub returns-then-not-same : goal.returns-then-not-same
returns-then-not-same c = sym (outer-other _ (set_of c.in-Some.set.words) (set_of c.complement.result.words) (sym c.in-Some.ensures) c.complement.ensures (c.in-Some-next.gap - 1)
    (ap (λ (x : ℕ). x - 1) (member-found (set_of c.complement.result.words) 1 c.in-Some-next.ensures).0)
    (sym (rw c.up_to.ensures at c.same.ensures) ∙ c.if-not-same.true))

pub returns : goal.returns
returns c = sym (outer_same _ (set_of c.in-Some.set.words) (set_of c.complement.result.words) (sym c.in-Some.ensures) c.complement.ensures (c.in-Some-next.gap - 1)
    (ap (λ (x : ℕ). x - 1) (member-found (set_of c.complement.result.words) 1 c.in-Some-next.ensures).0)
    (sym (rw c.up_to.ensures at c.same.ensures) ∙ c.if-not-same.false))
