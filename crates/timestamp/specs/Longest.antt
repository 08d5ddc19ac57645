-- The longest history line (Q-14): a set of the numbers 1 to n whose text is as long as any.
use Rattle.std.specs.Prelude.{ℕ, zero, suc, ◌≤◌, ◌≡◌, true, false, [], ◌∷◌, ◌++◌, length}
use Rattle.xml.specs.Bytes.{Bytes}
use Rattle.timestamp.specs.Times.{Times, write_times, times_compute}

-- "a history text over versions 1 to n than which no set of those numbers has a longer one"
pub record LongestText (n : ℕ) (s : Bytes) : Type 0 where
  pub set : Times
  pub over : length set ≡ n
  pub text : s ≡ write_times set
  pub most : (t : Times) → length t ≡ n → length (write_times t) ≤ length s

-- "The texts that attain it may tie": the set whose text is given has runs of two from n downwards, with gaps of one, and at the low end
-- what is left of the numbers 1 and 2: `2-3,5-6` for 6, `1,3-4,6-7` for 7, `1-2,4-5,7-8` for 8
unfoldable pub longest : ℕ → Times
longest zero = []
longest (suc zero) = true ∷ []
longest (suc (suc zero)) = true ∷ true ∷ []
longest (suc (suc (suc n))) = longest n ++ false ∷ true ∷ true ∷ []

unfoldable pub longest_compute : Unit {0}
unfolding times_compute longest
longest_compute = tt
