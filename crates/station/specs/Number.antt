-- The number that a word is: one decimal digit or more.
use Rattle.std.specs.Prelude.{ℕ, suc, ◌+◌, ◌*◌, ◌-◌, ◌<◌, min, ◌≡◌, refl, Bool, true, false, List, [], ◌∷◌, ltb, length, drop, get_or, Option, Some, None}
use Rattle.std.proofs.Common.{arith, drop-cons}
use Rattle.std.proofs.Math.Numerals.{add-one}
use Rattle.std.proofs.Math.Seq.{drop-length}

abbrev pub pick : Bool → Option ℕ → Option ℕ → Option ℕ
pick true a b = a
pick false a b = b

-- a digit's value; none for a byte that is no digit
abbrev pub digit_of : ℕ → Option ℕ
digit_of b = pick (ltb b 48) None (pick (ltb 57 b) None (Some (b - 48)))

-- the number whose digits so far have a value and whose other bytes are these; from 1,000 on it is 1,000, as no archive has such a version
unfoldable pub number_from : ℕ → List ℕ → Option ℕ
number_from v [] = Some v
number_from v (b ∷ s) = elim (digit_of b) [ None ↦ None | Some d ↦ number_from (min (v * 10 + d) 1000) s ]

unfoldable pub number_of : List ℕ → Option ℕ
number_of [] = None
number_of (b ∷ s) = number_from 0 (b ∷ s)

-- ---- one turn of the loop, and its ends
pub number-empty : (s : List ℕ) → length s ≡ 0 → None ≡ number_of s
unfolding number_of
number-empty [] e = refl
number-empty (b ∷ s) e = absurd (omega arith)

pub number-start : (s : List ℕ) → (length s ≡ 0 → ⊥) → number_from 0 (drop 0 s) ≡ number_of s
unfolding number_of
number-start [] n = absurd (n refl)
number-start (b ∷ s) n = refl

module _ (v b : ℕ) (s : List ℕ) where
  stop-cons : digit_of b ≡ None → number_from v (b ∷ s) ≡ None
  unfolding number_from
  stop-cons e = rw (e, number_from)

  step-cons : (d : ℕ) → digit_of b ≡ Some d → number_from v (b ∷ s) ≡ number_from (min (v * 10 + d) 1000) s
  unfolding number_from
  step-cons d e = rw (e, number_from)

module _ (s : List ℕ) (v i : ℕ) where
  pub number-end : i ≡ length s → number_from v (drop i s) ≡ Some v
  unfolding number_from
  number-end h = rw (h, drop-length s)

  pub number-stop : i < length s → digit_of (get_or s i 0) ≡ None → number_from v (drop i s) ≡ None
  unfolding number_from
  number-stop h e = rw (drop-cons s i 0 h) (stop-cons v (get_or s i 0) (drop (suc i) s) e)

  pub number_step : (d : ℕ) → i < length s → digit_of (get_or s i 0) ≡ Some d → number_from v (drop i s) ≡ number_from (min (v * 10 + d) 1000) (drop (i + 1) s)
  unfolding number_from
  number_step d h e = rw (drop-cons s i 0 h, add-one i) (step-cons v (get_or s i 0) (drop (suc i) s) d e)
