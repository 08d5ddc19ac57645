-- `timestamp::Timestamp::next_run` meets its contract.
use Prim.Native.Nat.{ℕ, ◌-◌, ◌+◌, min}
use native.Mathlib.Omega.{arith}
use mathlib.Core.Path.{◌≡◌, ap, ◌∙◌}
use mathlib.Core.Bool.{Bool}
use Rattle.std.specs.Prelude.{Option, unwrap_or}
use Rattle.timestamp.specs.Set.{set_of, outside, first_in}
use Rattle.timestamp.specs.First.{next_member, first-low, member-found, member-end}
use Rattle.timestamp.proofs.Timestamp.next_run.Goals as goal

pub overflow_sub-result : goal.overflow_sub-result
overflow_sub-result c =
    let s = set_of c.args.self.now.words in
    let lo = c.in_ok-lo.lo in
    let found = member-found s c.args.v c.in_ok-lo.ensures in
    let end-is : c.min-end.result ≡ min (first_in (1024 - lo) (outside s) lo) 1000 =
    c.min-end.ensures ∙ ap (λ (n : ℕ). min n 1000) (c.unwrap_or.ensures ∙ ap (λ (o : Option ℕ). unwrap_or o 1000) (c.next_in-2.ensures ∙ ap (λ (t : ℕ → Bool). next_member t lo) c.requires.2))
    ∙ member-end (outside s) lo in
    omega (arith, end-is, found.0, first-low s (1024 - c.args.v) c.args.v, first-low (outside s) (1024 - lo) lo)

pub returns : goal.returns
returns c =
    let s = set_of c.args.self.now.words in
    let lo = c.in_ok-lo.lo in
    let found = member-found s c.args.v c.in_ok-lo.ensures in
    let end-is : c.min-end.result ≡ min (first_in (1024 - lo) (outside s) lo) 1000 =
    c.min-end.ensures ∙ ap (λ (n : ℕ). min n 1000) (c.unwrap_or.ensures ∙ ap (λ (o : Option ℕ). unwrap_or o 1000) (c.next_in-2.ensures ∙ ap (λ (t : ℕ → Bool). next_member t lo) c.requires.2))
    ∙ member-end (outside s) lo in
    let z : c.min-end.result - 1 + 1 ≡ c.min-end.result = omega (arith, end-is, found.0, first-low s (1024 - c.args.v) c.args.v, first-low (outside s) (1024 - lo) lo) in
    (found.0, omega (arith, c.if-lo-ge1000.false), z ∙ end-is)
