-- Writing into a lent slice as much as fits.
use Rattle.std.specs.Prelude.{ℕ, ◌+◌, ◌≡◌, List, ◌++◌, length, take, drop}

-- `out` after the bytes `w` were written from its start, as many as fit
unfoldable pub over : List ℕ → List ℕ → List ℕ
over out w = take (length out) w ++ drop (length w) out

-- the same from the place `at`, which may lie past the end: then nothing is written
unfoldable pub over_at : List ℕ → ℕ → List ℕ → List ℕ
over_at out at w = take at out ++ over (drop at out) w

-- what a writer did: it was handed `out` and the place `at`, wrote `w` as far as it fits, and answers the place after it
pub record Wrote (out : List ℕ) (at : ℕ) (w : List ℕ) (r : ℕ) (left : List ℕ) : Type 0 where
  pub place : r ≡ at + length w
  pub bytes : left ≡ over_at out at w
