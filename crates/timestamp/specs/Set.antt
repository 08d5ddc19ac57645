-- A set of version numbers is a function ℕ → Bool. A timestamp's words hold one: version v is bit v % 64 of word v / 64.
use Rattle.std.specs.Prelude.{ℕ, zero, suc, ◌+◌, ◌/◌, ◌%◌, Bool, true, false, not, ◌&&◌, ◌||◌, List, eqb, leb, ltb, get_or}
use Rattle.std.specs.Bool.{beq}
use Rattle.timestamp.specs.Bits.{bit}

-- the set that the words hold
unfoldable pub set_of : List ℕ → ℕ → Bool
set_of w v = bit (get_or w (v / 64) 0) (v % 64)

-- the set that no number is in
abbrev pub empty_set : ℕ → Bool
empty_set v = false

-- the numbers 1 up to n
abbrev pub up_to : ℕ → ℕ → Bool
up_to n v = leb 1 v && leb v n

-- the numbers lo up to hi
abbrev pub between : ℕ → ℕ → ℕ → Bool
between lo hi v = leb lo v && leb v hi

abbrev pub adding : ℕ → (ℕ → Bool) → ℕ → Bool
adding n s v = eqb v n || s v

abbrev pub cut_at : ℕ → (ℕ → Bool) → ℕ → Bool
cut_at i s v = s v && leb v i

abbrev pub joined : (ℕ → Bool) → (ℕ → Bool) → ℕ → Bool
joined s t v = s v || t v

abbrev pub shared : (ℕ → Bool) → (ℕ → Bool) → ℕ → Bool
shared s t v = s v && t v

-- the numbers of s that t lacks
abbrev pub without : (ℕ → Bool) → (ℕ → Bool) → ℕ → Bool
without s t v = s v && not (t v)

-- the numbers that words can hold and s lacks
abbrev pub outside : (ℕ → Bool) → ℕ → Bool
outside s v = ltb v 1024 && not (s v)

-- the test at every number below n
unfoldable pub every : ℕ → (ℕ → Bool) → Bool
every zero p = true
every (suc n) p = p n && every n p

-- the two sets agree on every number that words can hold
unfoldable pub same_set : (ℕ → Bool) → (ℕ → Bool) → Bool
same_set s t = every 1024 (λ v. beq (s v) (t v))

abbrev pub is_none : (ℕ → Bool) → Bool
is_none s = same_set s empty_set

abbrev pub apart : (ℕ → Bool) → (ℕ → Bool) → Bool
apart s t = same_set (shared s t) empty_set

-- every number of s is one of t
abbrev pub subset : (ℕ → Bool) → (ℕ → Bool) → Bool
subset s t = same_set (shared s t) s

-- the least member from v, of the n numbers there; v + n where there is none
unfoldable pub first_in : ℕ → (ℕ → Bool) → ℕ → ℕ
first_in zero s v = v
first_in (suc n) s v = elim (s v) [ true ↦ v | false ↦ first_in n s (v + 1) ]
