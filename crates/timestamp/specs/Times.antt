-- Timestamps: a set of version numbers as a presence list, version 1 first.
use Rattle.std.specs.Prelude.{ℕ, zero, suc, ◌+◌, ◌-◌, ◌*◌, ◌/◌, ◌%◌, ◌≡◌, refl, Bool, true, false, ◌&&◌, List, [], ◌∷◌, ◌++◌, map, eqb, leb, replicate}
use Prim.Native.Char.{code}
use Rattle.std.specs.Bool.{beq}
use Rattle.xml.specs.Bytes.{Bytes, bytes, any, same_by, split, join_by, among, bytes_compute}

abbrev pub Times : Type 0
Times = List Bool

unfoldable pub same_times : Times → Times → Bool
same_times = same_by beq

-- the set of the one version that follows n others; the set of all n versions
unfoldable pub only_after : ℕ → Times
only_after n = replicate n false ++ true ∷ []

unfoldable pub always : ℕ → Times
always n = replicate n true

-- the n versions from i on
unfoldable pub up_from : ℕ → ℕ → List ℕ
up_from i zero = []
up_from i (suc n) = i ∷ up_from (suc i) n

-- ---- its text
unfoldable pub extend : ℕ → List (ℕ × ℕ) → List (ℕ × ℕ)
extend i [] = (i, i) ∷ []
extend i (r ∷ rs) = elim (eqb r.0 (suc i)) [ true ↦ (i, r.1) ∷ rs | false ↦ (i, i) ∷ r ∷ rs ]

-- "ascending maximal runs", of a presence list whose first version is i
unfoldable pub runs : ℕ → Times → List (ℕ × ℕ)
runs i [] = []
runs i (false ∷ t) = runs (suc i) t
runs i (true ∷ t) = extend i (runs (suc i) t)

unfoldable pub drop_zeros : Bytes → Bytes
drop_zeros [] = []
drop_zeros (b ∷ s) = elim (eqb b (code "0")) [ true ↦ drop_zeros s | false ↦ b ∷ s ]

-- the decimal digits of a number of 1 to 999
unfoldable pub decimal : ℕ → Bytes
decimal n = drop_zeros ((code "0" + n / 100 % 10) ∷ (code "0" + n / 10 % 10) ∷ (code "0" + n % 10) ∷ [])

unfoldable pub write_run : ℕ × ℕ → Bytes
write_run r = elim (eqb r.0 r.1) [ true ↦ decimal r.0 | false ↦ decimal r.0 ++ bytes "-" ++ decimal r.1 ]

-- "Its text gives ascending maximal runs: `1-3,5`."
unfoldable pub write_times : Times → Bytes
write_times t = join_by (bytes ",") (map write_run (runs 1 t))

-- ---- in text
-- the number that digits give, after the number a
unfoldable pub number_after : ℕ → Bytes → ℕ
number_after a [] = a
number_after a (b ∷ s) = number_after (10 * a + (b - code "0")) s

unfoldable pub number : Bytes → ℕ
number = number_after 0

unfoldable pub run_holds : ℕ → List Bytes → Bool
run_holds i [] = false
run_holds i (a ∷ []) = eqb i (number a)
run_holds i (a ∷ b ∷ []) = leb (number a) i && leb i (number b)
run_holds i (a ∷ b ∷ c ∷ ws) = false

-- "In text, a number belongs to it when one of its runs holds that number."
unfoldable pub belongs : ℕ → Bytes → Bool
belongs i s = any (λ r. run_holds i (split (eqb (code "-")) r)) (split (eqb (code ",")) s)

unfoldable pub last_of : List Bytes → Bytes
last_of [] = []
last_of (a ∷ []) = a
last_of (a ∷ b ∷ ws) = last_of (b ∷ ws)

-- the last number of a timestamp's text
unfoldable pub last_number : Bytes → ℕ
last_number s = number (last_of (split (among "-,") s))

unfoldable pub times_compute : Unit {0}
unfolding bytes_compute same_times only_after always up_from extend runs drop_zeros decimal write_run write_times number_after number run_holds belongs last_of last_number
times_compute = tt

pub times-test : write_times (true ∷ true ∷ true ∷ false ∷ true ∷ []) ≡ bytes "1-3,5"
unfolding times_compute
times-test = refl
