-- A set and its presence list: ONE law ties the code's sets to the definitions. The text of a set is that of its presence list.
use Rattle.std.specs.Prelude.{ℕ, zero, suc, ◌+◌, ◌-◌, ◌≤◌, ◌<◌, ◌≡◌, refl, [], ◌∷◌, ◌++◌, map, Bool, true, false, ◌||◌, leb, length, get_or, replicate}
use Rattle.std.proofs.Common.{sym, ap, ap₂, ◌∙◌, arith, eq-eqb, ne_eqb, le-leb, leb-true}
use Rattle.std.proofs.Math.Path.{fun_ext}
use Rattle.std.proofs.Math.Decide.{dec_lt, dec_le}
use Rattle.xml.specs.Bytes.{Bytes}
use Rattle.xml.specs.Truth.{clash, not_so, and_left, and_right, and_both}
use Rattle.timestamp.specs.Times.{Times, same_times, only_after, always, up_from, write_times, belongs}
use Rattle.timestamp.specs.TimesLaws.{times-is, times-self, bool_eq, or-by, same_or, belongs-times, write-lacks, write-none}
use Rattle.timestamp.specs.Set.{empty_set, up_to, adding, cut_at, joined, same_set}
use Rattle.timestamp.specs.Tests.{same-tells, same-told}
use Rattle.timestamp.specs.Runs.{length_from, get_d-from, from-cong, from-snoc, from-always}

-- which of the versions 1 to n are in the set
unfoldable pub listed : ℕ → (ℕ → Bool) → Times
listed n s = map s (up_from 1 n)

-- the text of a set of the numbers 1 to 999
unfoldable pub text_of : (ℕ → Bool) → Bytes
text_of s = write_times (listed 999 s)

-- the set has no number but 1 to n
abbrev pub Only : ℕ → (ℕ → Bool) → Type 0
Only n s = (v : ℕ) → s v ≡ true → (1 ≤ v) × (v ≤ n)

pub listed-length : (n : ℕ) (s : ℕ → Bool) → length (listed n s) ≡ n
unfolding listed
listed-length n s = length_from s 1 n

pub listed_at : (n : ℕ) (s : ℕ → Bool) (v : ℕ) → 1 ≤ v → v ≤ n → get_or (listed n s) (v - 1) false ≡ s v
unfolding listed
listed_at n s v l h = let e : 1 + (v - 1) ≡ v = omega arith in get_d-from s 1 n (v - 1) (omega arith) ∙ ap s e

-- the numbers past n and 0 are in no set of the numbers 1 to n
pub only_zero : (n : ℕ) (s : ℕ → Bool) → Only n s → s 0 ≡ false
only_zero n s o = not_so (s 0) (λ e. let x = o 0 e in omega arith)

pub only-past : (n : ℕ) (s : ℕ → Bool) → Only n s → (v : ℕ) → n < v → s v ≡ false
only-past n s o v h = not_so (s v) (λ e. let x = o v e in omega arith)

pub only-more : (n m : ℕ) (s : ℕ → Bool) → n ≤ m → Only n s → Only m s
only-more n m s h o v e = let x = o v e in (x.0, omega arith)

-- a set of the numbers 1 to n is determined by its presence list
pub listed-inj : (n : ℕ) (s t : ℕ → Bool) → Only n s → Only n t → listed n s ≡ listed n t → s ≡ t
listed-inj n s t o o' e = fun_ext (λ v. go v (dec_lt 0 v) (dec_le v n))
  where
    go : (v : ℕ) → Dec (0 < v) → Dec (v ≤ n) → s v ≡ t v
    go v (yes q) (yes d) = sym (listed_at n s v q d) ∙ ap (λ (l : Times). get_or l (v - 1) false) e ∙ listed_at n t v q d
    go v (yes q) (no d) = only-past n s o v (omega arith) ∙ sym (only-past n t o' v (omega arith))
    go v (no q) d = let z : v ≡ 0 = omega arith in rw z (only_zero n s o ∙ sym (only_zero n t o'))

-- ---- the operations on presence lists
pub listed-snoc : (n : ℕ) (s : ℕ → Bool) → listed (suc n) s ≡ listed n s ++ s (suc n) ∷ []
unfolding listed
listed-snoc n s = let e : 1 + n ≡ suc n = omega arith in from-snoc s 1 n ∙ ap (λ (x : ℕ). map s (up_from 1 n) ++ s x ∷ []) e

pub listed-cong : (n : ℕ) (s t : ℕ → Bool) → ((v : ℕ) → 1 ≤ v → v ≤ n → s v ≡ t v) → listed n s ≡ listed n t
unfolding listed
listed-cong n s t h = from-cong s t 1 n (λ u a b. h u a (omega arith))

pub listed-none : (n : ℕ) → listed n empty_set ≡ replicate n false
unfolding listed
listed-none n = from-always false 1 n

-- version n + 1 is added
pub listed-adding : (n : ℕ) (s : ℕ → Bool) → listed (suc n) (adding (suc n) s) ≡ listed n s ++ true ∷ []
listed-adding n s =
    listed-snoc n (adding (suc n) s)
    ∙ ap₂ (λ (l : Times) (b : Bool). l ++ b ∷ [])
    (listed-cong n (adding (suc n) s) s (λ v a b. ap (λ (x : Bool). x || s v) (ne_eqb v (suc n) (λ e. omega arith))))
    (ap (λ (x : Bool). x || s (suc n)) (eq-eqb (suc n) (suc n) refl))

pub only-adding : (n : ℕ) (s : ℕ → Bool) → Only n s → Only (suc n) (adding (suc n) s)
only-adding n s o v e = same_or v (suc n) (λ q. (omega arith, omega arith)) (λ q. let x = o v (sym (ap (λ (b : Bool). b || s v) (ne_eqb v (suc n) q)) ∙ e) in (x.0, omega arith))

-- or is not
pub listed-lacking : (n : ℕ) (s : ℕ → Bool) → Only n s → listed (suc n) s ≡ listed n s ++ false ∷ []
listed-lacking n s o = listed-snoc n s ∙ ap (λ (b : Bool). listed n s ++ b ∷ []) (only-past n s o (suc n) (omega arith))

-- the set of version n + 1 alone
pub listed-newest : (n : ℕ) → listed (suc n) (adding (suc n) empty_set) ≡ only_after n
unfolding only_after
listed-newest n = listed-adding n empty_set ∙ ap (λ (l : Times). l ++ true ∷ []) (listed-none n)

-- all of the versions 1 to n
pub listed-up-to : (n : ℕ) → listed n (up_to n) ≡ always n
unfolding always listed
listed-up-to n = listed-cong n (up_to n) (λ v. true) (λ v a b. and_both (leb 1 v) (leb v n) (le-leb 1 v a) (le-leb v n b)) ∙ from-always true 1 n

pub only-up-to : (n : ℕ) → Only n (up_to n)
only-up-to n v e = (leb-true 1 v (and_left (leb 1 v) (leb v n) e), leb-true v n (and_right (leb 1 v) (leb v n) e))

pub only-cut : (n i : ℕ) (s : ℕ → Bool) → Only n s → Only i (cut_at i s)
only-cut n i s o v e = ((o v (and_left (s v) (leb v i) e)).0, leb-true v i (and_right (s v) (leb v i) e))

pub only-joined : (n : ℕ) (s t : ℕ → Bool) → Only n s → Only n t → Only n (joined s t)
only-joined n s t o o' v e = or-by (s v) (t v) e (λ x. o v x) (λ x. o' v x)

pub only_none : (n : ℕ) → Only n empty_set
only_none n v e = clash (sym e)

-- the same set, the same presence list
pub same-listed : (n : ℕ) (s t : ℕ → Bool) → Only n s → Only n t → n < 1024 → same_set s t ≡ same_times (listed n s) (listed n t)
same-listed n s t o o' h =
    bool_eq (same_set s t) (same_times (listed n s) (listed n t))
    (λ e. ap (same_times (listed n s)) (sym (listed-cong n s t (λ v a b. same-tells s t e v (omega arith)))) ∙ times-self (listed n s))
    (λ e. same-told s t (λ v l. ap (λ (f : ℕ → Bool). f v) (listed-inj n s t o o' (times-is (listed n s) (listed n t) e))))

-- ---- the text
-- THE law: the text of a set of the numbers 1 to n is that of its presence list
pub text-listed : (n : ℕ) (s : ℕ → Bool) → n ≤ 999 → Only n s → text_of s ≡ write_times (listed n s)
unfolding text_of
text-listed n s h o = go (999 - n) n (omega arith) (omega arith)
  where
    go : (d m : ℕ) → m + d ≡ 999 → n ≤ m → write_times (listed 999 s) ≡ write_times (listed m s)
    go zero m e l = let z : m ≡ 999 = omega arith in rw z
    go (suc d) m e l = go d (suc m) (omega arith) (omega arith) ∙ ap write_times (listed-lacking m s (only-more n m s l o)) ∙ write-lacks (listed m s)

-- just its numbers belong to it
pub belongs-listed : (s : ℕ → Bool) (v : ℕ) → 1 ≤ v → v ≤ 999 → belongs v (text_of s) ≡ s v
unfolding text_of
belongs-listed s v l h = belongs-times v (listed 999 s) l (let e = listed-length 999 s in omega arith) ∙ listed_at 999 s v l h

-- a set of the numbers 1 to 999 is determined by its text
pub text-inj : (s t : ℕ → Bool) → Only 999 s → Only 999 t → text_of s ≡ text_of t → s ≡ t
text-inj s t o o' e =
    listed-inj 999 s t o o' (listed-cong 999 s t (λ v a b. sym (belongs-listed s v a b) ∙ ap (belongs v) e ∙ belongs-listed t v a b))

-- the text of 1 to n is `1-n`, of 1 alone `1`
pub text-up-to : (n : ℕ) → n ≤ 999 → text_of (up_to n) ≡ write_times (always n)
text-up-to n h = text-listed n (up_to n) h (only-up-to n) ∙ ap write_times (listed-up-to n)

pub text-none : text_of empty_set ≡ []
unfolding text_of
text-none = ap write_times (listed-none 999) ∙ write-none 999
