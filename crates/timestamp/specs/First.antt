-- The least member of a set from a number on: what determines it, and how words give it, by the lowest bit of the first that is not 0.
use Prim.Native.Nat.{ℕ, zero, suc, ◌+◌, ◌-◌, ◌*◌, ◌/◌, ◌%◌, ◌^◌, ◌≤◌, ◌<◌, min}
use Rattle.std.specs.Prelude.{◌≡◌, List, Bool, eqb, ltb, get_or, Option, Some, None, MatchOption, unwrap_or}
use Rattle.std.proofs.Math.Path.{refl, ap}
use Rattle.std.proofs.Common.{sym, ◌∙◌, pow-suc, div-one, shr-shr, lt-ltb, le-ltb, eqb-true, eq-eqb}
use Rattle.std.proofs.Math.Bool.{true, false}
use native.Mathlib.Omega.{arith}
use Rattle.std.proofs.Math.Decide.{dec_lt}
use Rattle.std.specs.Int.Count.{count_trailing_zeros, under}
use Rattle.xml.specs.Truth.{bool_by}
use Rattle.timestamp.specs.Bits.{bit, bit-zero, bit-suc, bit-none}
use Rattle.timestamp.specs.TimesLaws.{bool_eq}
use Rattle.timestamp.specs.Set.{set_of, empty_set, is_none, outside, first_in}
use Rattle.timestamp.specs.Tests.{same-tells, same-told}

module _ (s : ℕ → Bool) where
  -- the first of n numbers, or the number after them
  pub first-low : (n v : ℕ) → v ≤ first_in n s v
  unfolding first_in
  first-low zero v = omega arith
  first-low (suc n) v = bool_by (λ x. v ≤ elim x as (λ _. ℕ) [ true ↦ v | false ↦ first_in n s (v + 1) ]) (s v) (λ _. omega arith) (λ _. omega (arith, first-low n (v + 1)))

  pub first-high : (n v : ℕ) → first_in n s v ≤ v + n
  unfolding first_in
  first-high zero v = omega arith
  first-high (suc n) v = bool_by (λ x. elim x as (λ _. ℕ) [ true ↦ v | false ↦ first_in n s (v + 1) ] ≤ v + suc n) (s v) (λ _. omega arith) (λ _. omega (arith, first-high n (v + 1)))

  -- what determines it
  pub first-is : (n v m : ℕ) → v ≤ m → m ≤ v + n → ((u : ℕ) → v ≤ u → u < m → s u ≡ false) → (m < v + n → s m ≡ true) → first_in n s v ≡ m
  unfolding first_in
  first-is zero v m l h f g = omega arith
  first-is (suc n) v m l h f g = go (dec_lt v m) (λ k. first-is n (v + 1) m k (omega arith) (λ u a b. f u (omega arith) b) (λ b. g (omega arith)))
    where
      go : Dec (v < m) → (v + 1 ≤ m → first_in n s (v + 1) ≡ m) → first_in (suc n) s v ≡ m
      go (yes q) ih = rw (f v (omega arith) q, first_in) (ih (omega arith))
      go (no q) ih = let e : v ≡ m = omega arith in rw (ap s e ∙ g (omega arith), first_in) e

  pub first-before : (n v u : ℕ) → v ≤ u → u < first_in n s v → s u ≡ false
  unfolding first_in
  first-before zero v u l h = absurd (omega arith)
  first-before (suc n) v u l h =
      bool_by (λ x. s v ≡ x → u < elim x as (λ _. ℕ) [ true ↦ v | false ↦ first_in n s (v + 1) ] → s u ≡ false) (s v)
      (λ _ e k. absurd (omega arith)) (λ _ e k. go e k (dec_lt v u) (λ b. first-before n (v + 1) u b k)) refl h
    where
      go : s v ≡ false → u < first_in n s (v + 1) → Dec (v < u) → (v + 1 ≤ u → s u ≡ false) → s u ≡ false
      go e k (yes q) ih = ih (omega arith)
      go e k (no q) ih = let z : u ≡ v = omega arith in ap s z ∙ e

  pub first_member : (n v : ℕ) → first_in n s v < v + n → s (first_in n s v) ≡ true
  unfolding first_in
  first_member zero v h = absurd (omega arith)
  first_member (suc n) v h =
      bool_by (λ x. s v ≡ x → elim x as (λ _. ℕ) [ true ↦ v | false ↦ first_in n s (v + 1) ] < v + suc n → s (elim x as (λ _. ℕ) [ true ↦ v | false ↦ first_in n s (v + 1) ]) ≡ true) (s v)
      (λ _ e k. e) (λ _ e k. first_member n (v + 1) (omega arith)) refl h

  -- numbers that are no members are passed
  pub first-pass : (e v u : ℕ) → v ≤ u → u ≤ e → ((x : ℕ) → v ≤ x → x < u → s x ≡ false) → first_in (e - v) s v ≡ first_in (e - u) s u
  first-pass e v u l h f =
      first-is (e - v) v (first_in (e - u) s u) (omega (arith, first-low (e - u) u)) (omega (arith, first-high (e - u) u))
      (λ x a b. go x a b (dec_lt x u)) (λ b. first_member (e - u) u (omega arith))
    where
      go : (x : ℕ) → v ≤ x → x < first_in (e - u) s u → Dec (x < u) → s x ≡ false
      go x a b (yes q) = f x a q
      go x a b (no q) = first-before (e - u) u x (omega arith) b

-- ---- the least member as an answer: one of the numbers that words can hold, or none
abbrev pub pick_held : Bool → ℕ → Option ℕ
pick_held true m = Some m
pick_held false m = None

abbrev pub next_member : (ℕ → Bool) → ℕ → Option ℕ
next_member s v = pick_held (ltb (first_in (1024 - v) s v) 1024) (first_in (1024 - v) s v)

-- the first run of members below 1000 from v on: its first and its last number
abbrev pub RunFrom : (ℕ → Bool) → ℕ → Option (ℕ × ℕ) → Type 0
RunFrom s v r =
    MatchOption r (1000 ≤ first_in (1024 - v) s v)
    (λ x. (x.0 ≡ first_in (1024 - v) s v) × (x.0 < 1000) × (x.1 + 1 ≡ min (first_in (1024 - x.0) (outside s) x.0) 1000))

-- by the first number, or 1024 where there is none
abbrev pub pick_held_of : ℕ → Option ℕ
pick_held_of m = pick_held (ltb m 1024) m

module _ (s : ℕ → Bool) (v : ℕ) where
  pub member-is : {m : ℕ} → first_in (1024 - v) s v ≡ m → m < 1024 → Some m ≡ next_member s v
  member-is {m} e h = rw (e, lt-ltb m 1024 h)

  pub member-none : first_in (1024 - v) s v ≡ 1024 → None ≡ next_member s v
  member-none e = rw e

  pub member-found : {m : ℕ} → Some m ≡ next_member s v → (m ≡ first_in (1024 - v) s v) × (m < 1024)
  member-found {m} e = go (first_in (1024 - v) s v) (dec_lt (first_in (1024 - v) s v) 1024) e
    where
      go : (f : ℕ) → Dec (f < 1024) → Some m ≡ pick_held (ltb f 1024) f → (m ≡ f) × (m < 1024)
      go f (yes q) z = let y : Some m ≡ Some f = rw (lt-ltb f 1024 q) at z in let w : m ≡ f = cc in (w, omega arith)
      go f (no q) z = let y : Some m ≡ None = rw (le-ltb f 1024 (omega arith)) at z in absurd cc

  pub member-missed : None ≡ next_member s v → 1024 ≤ first_in (1024 - v) s v
  member-missed e = go (first_in (1024 - v) s v) (dec_lt (first_in (1024 - v) s v) 1024) e
    where
      go : (f : ℕ) → Dec (f < 1024) → None ≡ pick_held (ltb f 1024) f → 1024 ≤ f
      go f (yes q) z = let y : None ≡ Some f = rw (lt-ltb f 1024 q) at z in absurd cc
      go f (no q) z = omega arith

  -- the end of a run, at 1000 or before
  pub member-end : min (unwrap_or (next_member s v) 1000) 1000 ≡ min (first_in (1024 - v) s v) 1000
  member-end = go (first_in (1024 - v) s v) (dec_lt (first_in (1024 - v) s v) 1024)
    where
      go : (f : ℕ) → Dec (f < 1024) → min (unwrap_or (pick_held (ltb f 1024) f) 1000) 1000 ≡ min f 1000
      go f (yes q) = rw (lt-ltb f 1024 q)
      go f (no q) = rw (le-ltb f 1024 (omega arith)) (omega arith)

-- there is none
pub none_first : (s : ℕ → Bool) → eqb (first_in 1024 s 0) 1024 ≡ is_none s
none_first s =
    bool_eq (eqb (first_in 1024 s 0) 1024) (is_none s)
    (λ e. same-told s empty_set (λ v l. first-before s 1024 0 v (omega arith) (omega (arith, eqb-true (first_in 1024 s 0) 1024 e))))
    (λ e. eq-eqb (first_in 1024 s 0) 1024 (first-is s 1024 0 1024 (omega arith) (omega arith) (λ u a b. same-tells s empty_set e u b) (λ b. absurd (omega arith))))

-- ---- the lowest bit of a word
lowest-out : (k n j : ℕ) → j < count_trailing_zeros k n → bit n j ≡ false
unfolding count_trailing_zeros
lowest-out zero n j h = absurd (omega arith)
lowest-out (suc k) n j h = go (n % 2) refl j (λ i l. lowest-out k (n / 2) i l) h
  where
    go : (r : ℕ) → n % 2 ≡ r → (i : ℕ) → ((i : ℕ) → i < count_trailing_zeros k (n / 2) → bit (n / 2) i ≡ false) → i < under r (count_trailing_zeros k (n / 2)) → bit n i ≡ false
    go zero e zero ih l = bit-zero n ∙ ap (λ (x : ℕ). eqb x 1) e
    go zero e (suc i) ih l = bit-suc n i ∙ ih i (omega arith)
    go (suc r) e i ih l = absurd (omega arith)

lowest-in : (m k n : ℕ) → m ≤ k → 0 < n → n < 2 ^ m → (count_trailing_zeros k n < m) × (bit n (count_trailing_zeros k n) ≡ true)
unfolding count_trailing_zeros
lowest-in zero k n l p h = absurd (omega arith)
lowest-in (suc m) zero n l p h = absurd (omega arith)
lowest-in (suc m) (suc k) n l p h =
    let b : n < 2 ^ m * 2 = rw (pow-suc 2 m) at h in
    go (n % 2) refl (λ q. lowest-in m k (n / 2) (omega arith) q (omega arith))
  where
    go : (r : ℕ) → n % 2 ≡ r → (0 < n / 2 → (count_trailing_zeros k (n / 2) < m) × (bit (n / 2) (count_trailing_zeros k (n / 2)) ≡ true))
        → (under r (count_trailing_zeros k (n / 2)) < suc m) × (bit n (under r (count_trailing_zeros k (n / 2))) ≡ true)
    go zero e ih = let i = ih (omega arith) in (omega (arith, i.0), bit-suc n (count_trailing_zeros k (n / 2)) ∙ i.1)
    go (suc r) e ih = let o : n % 2 ≡ 1 = omega arith in (omega arith, bit-zero n ∙ ap (λ (x : ℕ). eqb x 1) o)

bit-shr : (x j i : ℕ) → bit (x / 2 ^ j) i ≡ bit x (j + i)
unfolding bit
bit-shr x j i = ap (λ (n : ℕ). eqb (n % 2) 1) (shr-shr x j i)

-- ---- number v = k * 64 + j is bit j of word k, which is x; r is the rest of it
module _ {s : ℕ → Bool} (x v k j r : ℕ) (is : (u : ℕ) → u / 64 ≡ k → s u ≡ bit x (u % 64)) (e : v ≡ k * 64 + j) (hj : j < 64) (hk : k < 16) (d : r ≡ x / 2 ^ j) where
  word-bit : (u i : ℕ) → u ≡ v + i → j + i < 64 → s u ≡ bit r i
  word-bit u i e' h =
      let d' : u / 64 ≡ k = omega arith in
      let m : u % 64 ≡ j + i = omega arith in
      is u d' ∙ ap (bit x) m ∙ sym (bit-shr x j i) ∙ ap (λ (y : ℕ). bit y i) (sym d)

  -- a rest that is not 0 gives its lowest bit
  pub word-found : r < 2 ^ (64 - j) → (r ≡ 0 → ⊥) → first_in (1024 - v) s v ≡ v + count_trailing_zeros 64 r
  word-found hr ne =
      let t = count_trailing_zeros 64 r in
      let b = lowest-in (64 - j) 64 r (omega arith) (omega arith) hr in
      first-is s (1024 - v) v (v + t) (omega arith) (omega (arith, b.0))
      (λ u l h. word-bit u (u - v) (omega arith) (omega (arith, b.0)) ∙ lowest-out 64 r (u - v) (omega arith))
      (λ h. word-bit (v + t) t refl (omega (arith, b.0)) ∙ b.1)

  pub word-member : r < 2 ^ (64 - j) → (r ≡ 0 → ⊥) → Some (v + count_trailing_zeros 64 r) ≡ next_member s v
  word-member hr ne =
      let b = lowest-in (64 - j) 64 r (omega arith) (omega arith) hr in member-is s v (word-found hr ne) (omega (arith, b.0))

  -- one that is 0 is passed
  pub word-passed : r ≡ 0 → first_in (1024 - v) s v ≡ first_in (1024 - (k + 1) * 64) s ((k + 1) * 64)
  word-passed z =
      first-pass s 1024 v ((k + 1) * 64) (omega arith) (omega arith)
      (λ u l h. word-bit u (u - v) (omega arith) (omega arith) ∙ ap (λ (y : ℕ). bit y (u - v)) z ∙ bit-none (u - v))

-- the same of whole words
module _ {s : ℕ → Bool} (x k : ℕ) (is : (u : ℕ) → u / 64 ≡ k → s u ≡ bit x (u % 64)) (hk : k < 16) where
  pub whole-member : x < 2 ^ 64 → (x ≡ 0 → ⊥) → Some (k * 64 + count_trailing_zeros 64 x) ≡ next_member s (k * 64)
  whole-member = word-member x (k * 64) k 0 x is (omega arith) (omega arith) hk (sym (div-one x))

  pub whole-passed : x ≡ 0 → first_in (1024 - k * 64) s (k * 64) ≡ first_in (1024 - (k + 1) * 64) s ((k + 1) * 64)
  whole-passed = word-passed x (k * 64) k 0 x is (omega arith) (omega arith) hk (sym (div-one x))

-- the word of the set
pub word-is : (w : List ℕ) (k u : ℕ) → u / 64 ≡ k → set_of w u ≡ bit (get_or w k 0) (u % 64)
unfolding set_of
word-is w k u e = ap (λ (n : ℕ). bit (get_or w n 0) (u % 64)) e
