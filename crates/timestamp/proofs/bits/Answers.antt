-- `timestamp::bits` meets its contract.
use Prim.Native.Nat.{ℕ, ◌+◌, ◌-◌, ◌*◌, ◌/◌, ◌%◌, ◌^◌, ◌<◌}
use mathlib.Core.Path.{◌≡◌, sym, ap, ap₂, ◌∙◌}
use native.Mathlib.Omega.{arith}
use native.Mathlib.Nat.{one-mul, mod-eq_of_lt}
use lib.Bits.{bit_xor}
use lib.Pow.{pow_pos, pow-lt, ones_split, ones_lt, high}
use Rattle.timestamp.proofs.bits.Goals as goal

pow-is : (m : ℕ) → m < 64 → (1 * 2 ^ m) % 2 ^ 64 ≡ 2 ^ m
pow-is m h = rw (one-mul (2 ^ m)) (mod-eq_of_lt (pow-lt h))

ones_above : (j : ℕ) → j < 64 → (2 ^ 64 - 1) / 2 ^ (63 - j) ≡ 2 ^ (j + 1) - 1
ones_above j h =
    let e : j + 1 + (63 - j) ≡ 64 = omega arith in
    ap (λ (n : ℕ). n / 2 ^ (63 - j)) (sym (ap (λ (k : ℕ). 2 ^ k - 1) e) ∙ ones_split (j + 1) (63 - j)) ∙ high (2 ^ (j + 1) - 1) (63 - j) (ones_lt (63 - j))

pub overflow_sub-result : goal.overflow_sub-result
overflow_sub-result c = omega (arith, pow-is c.args.lo (omega arith), pow_pos c.args.lo)

pub returns : goal.returns
returns c = ap₂ bit_xor (ones_above c.args.hi (omega arith)) (ap (λ (n : ℕ). n - 1) (pow-is c.args.lo (omega arith)))
