-- The lengths of numbers and runs in decimal: a smaller number has no more digits.
use Rattle.std.specs.Prelude.{ℕ, zero, suc, ◌+◌, ◌-◌, ◌≤◌, ◌<◌, ◌≡◌, refl, true, leb, length}
use Rattle.std.proofs.Common.{arith, ap, ◌∙◌, length-append, leb-true}
use Rattle.xml.specs.Bytes.{all}
use Rattle.timestamp.specs.Times.{up_from, decimal, write_run, times_compute}
use Rattle.timestamp.specs.TimesLaws.{all_from}
use Rattle.timestamp.specs.Write.{run-same, run_long}

-- what does not fall from number to number does not fall
module _ (f : ℕ → ℕ) (top : ℕ) (up : (m : ℕ) → m < top → f m ≤ f (suc m)) where
  climb : (d a : ℕ) → a + d ≤ top → f a ≤ f (a + d)
  climb zero a l = let z : a + 0 ≡ a = omega arith in rw z (omega arith)
  climb (suc d) a l = let z : a + suc d ≡ suc (a + d) = omega arith in rw z (omega (arith, climb d a (omega arith), up (a + d) (omega arith)))

  pub climbs : (a b : ℕ) → a ≤ b → b ≤ top → f a ≤ f b
  climbs a b l u = let z : a + (b - a) ≡ b = omega arith in rw z at (climb (b - a) a (omega arith))

-- ---- how many digits a number has: one computed test of neighbours up to 999
unfoldable pub digits_of : ℕ → ℕ
digits_of n = length (decimal n)

all_up : all (λ m. leb (digits_of m) (digits_of (suc m))) (up_from 0 999) ≡ true
unfolding times_compute digits_of
all_up = refl

pub digits_step : (m : ℕ) → m < 999 → digits_of m ≤ digits_of (suc m)
digits_step m h = leb-true (digits_of m) (digits_of (suc m)) (all_from (λ m. leb (digits_of m) (digits_of (suc m))) 0 999 m all_up (omega arith) (omega arith))

pub digits_up : (a b : ℕ) → a ≤ b → b ≤ 999 → digits_of a ≤ digits_of b
digits_up = climbs digits_of 999 digits_step

-- ---- runs
pub one-length : (a : ℕ) → length (write_run (a, a)) ≡ digits_of a
unfolding digits_of
one-length a = ap length (run-same a a refl)

pub two-length : (a b : ℕ) → (a ≡ b → ⊥) → length (write_run (a, b)) ≡ digits_of a + 1 + digits_of b
unfolding digits_of
two-length a b h = ap length (run_long a b h) ∙ simp length-append
