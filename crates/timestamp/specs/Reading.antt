-- Reading a text strictly, in one pass: ascending maximal runs of the numbers 1 to 999, with no leading zeros.
use Rattle.std.specs.Prelude.{ℕ, ◌+◌, ◌-◌, ◌*◌, ◌≤◌, ◌<◌, ◌≡◌, List, [], ◌∷◌, Bool, true, false, ◌&&◌, ◌||◌, eqb, ltb, length, get_or, drop}
use Rattle.std.proofs.Common.{ap, ◌∙◌, arith, add-one, drop_of_length-le, drop-cons, ne_eqb, ltb-true}
use Rattle.xml.specs.Bytes.{Bytes, is_digit, within}
use Rattle.xml.specs.Truth.{and_left}
use Rattle.timestamp.specs.Set.{empty_set, joined, between}
use Rattle.timestamp.specs.Parse.{Outcome, refused, accepted}

-- the set so far, the bound that the next run must pass, the run's start or 0, and the number so far; or what is refused
pub data St : Type 0 where
  bad : St
  st : (ℕ → Bool) → ℕ → ℕ → ℕ → St

abbrev pub pick_n : Bool → ℕ → ℕ → ℕ
pick_n true a b = a
pick_n false a b = b

abbrev pub pick_s : Bool → St → St → St
pick_s true a b = a
pick_s false a b = b

-- a digit may follow: the number stays below 1000, and has no leading zero
abbrev pub more : ℕ → ℕ → Bool
more n b = ltb n 100 && (ltb 0 n || ltb 48 b)

-- a number at which a run of several begins
abbrev pub opens : ℕ → ℕ → ℕ → Bool
opens p lo n = eqb lo 0 && ltb p n

-- a number at which a run ends
abbrev pub closes : ℕ → ℕ → ℕ → Bool
closes p lo n = ltb (pick_n (eqb lo 0) p lo) n

abbrev pub start_at : ℕ → ℕ → ℕ
start_at lo n = pick_n (eqb lo 0) n lo

unfoldable pub digit_in : St → ℕ → St
digit_in bad b = bad
digit_in (st s p lo n) b = pick_s (more n b) (st s p lo (n * 10 + (b - 48))) bad

unfoldable pub dash_in : St → St
dash_in bad = bad
dash_in (st s p lo n) = pick_s (opens p lo n) (st s p n 0) bad

unfoldable pub close_in : St → St
close_in bad = bad
close_in (st s p lo n) = pick_s (closes p lo n) (st (joined s (between (start_at lo n) n)) (n + 1) 0 0) bad

unfoldable pub step_in : St → ℕ → St
step_in x b = pick_s (is_digit b) (digit_in x b) (pick_s (eqb b 45) (dash_in x) (pick_s (eqb b 44) (close_in x) bad))

-- the state after all the bytes
unfoldable pub steps : St → List ℕ → St
steps x [] = x
steps x (b ∷ bs) = steps (step_in x b) bs

abbrev pub set_in : St → Outcome
set_in bad = refused
set_in (st s p lo n) = accepted s

-- what is read of a whole text
unfoldable pub read_in : Bytes → Outcome
read_in l = set_in (close_in (steps (st empty_set 0 0 0) l))

pub steps_on : (x : St) (l : List ℕ) (at : ℕ) → at < length l → steps x (drop at l) ≡ steps (step_in x (get_or l at 0)) (drop (at + 1) l)
unfolding steps
steps_on x l at h = ap (steps x) (drop-cons l at 0 h) ∙ rw (add-one at)

pub steps-end : (x : St) (l : List ℕ) (at : ℕ) → length l ≤ at → steps x (drop at l) ≡ x
unfolding steps
steps-end x l at h = ap (steps x) (drop_of_length-le l h)

pub start-le : (p lo n : ℕ) → closes p lo n ≡ true → start_at lo n ≤ n
start-le p lo n e = go (eqb lo 0) e
  where
    go : (b : Bool) → ltb (pick_n b p lo) n ≡ true → pick_n b n lo ≤ n
    go true q = omega arith
    go false q = omega (arith, ltb-true lo n q)

pub more-low : (n b : ℕ) → more n b ≡ true → n < 100
more-low n b e = ltb-true n 100 (and_left (ltb n 100) (ltb 0 n || ltb 48 b) e)

pub step-digit : (x : St) (b : ℕ) → is_digit b ≡ true → step_in x b ≡ digit_in x b
unfolding step_in
step-digit x b e = rw e

pub step-dash : (x : St) (b : ℕ) → b ≡ 45 → step_in x b ≡ dash_in x
unfolding step_in is_digit within
step-dash x b e = rw e

pub step-comma : (x : St) (b : ℕ) → b ≡ 44 → step_in x b ≡ close_in x
unfolding step_in is_digit within
step-comma x b e = rw e

pub step_other : (x : St) (b : ℕ) → is_digit b ≡ false → (b ≡ 45 → ⊥) → (b ≡ 44 → ⊥) → step_in x b ≡ bad
unfolding step_in
step_other x b e d q = rw (e, ne_eqb b 45 d, ne_eqb b 44 q)
