-- Comparing a text with what is to stand in it, piece by piece.
use Rattle.std.specs.Prelude.{ℕ, ◌+◌, ◌≡◌, refl, true, false, List, eqb, length, drop}
use Rattle.xml.specs.Bytes.{Bytes, bytes}
use Rattle.xml.specs.Forest.{Forest, write}
use Rattle.xml.specs.Read.{common, read_compute}
use Rattle.xml.specs.Tape.{Tape}

-- the place after w, where w stands in the text s at the place `at`; else the place past the end of s, where no byte stands
unfoldable pub match_at : Bytes → ℕ → Bytes → ℕ
match_at s at w = elim (eqb (common w (drop at s)) (length w)) [ true ↦ at + length w | false ↦ length s + 1 ]

-- whichever forest the nodes are, what it is written as is compared
abbrev pub Matches : List ℕ → List ℕ → ℕ → ℕ → ℕ → ℕ → Type 0
Matches src cells lo hi at r = (f : Forest) → Tape src cells lo hi f → r ≡ match_at src at (write f)

pub match-test : (match_at (bytes "<a></a>") 3 (bytes "</") ≡ 5) × (match_at (bytes "<a></a>") 3 (bytes "</b") ≡ 8) × (match_at (bytes "<a></a>") 8 (bytes "<") ≡ 8)
unfolding read_compute match_at
match-test = (refl, refl, refl)
