-- A number of a text read at once: what the reader of a text makes of it is what it makes of its digits.
use Rattle.std.specs.Prelude.{ℕ, ◌+◌, ◌-◌, ◌*◌, ◌/◌, ◌%◌, ◌≤◌, ◌<◌, ◌≡◌, refl, [], ◌∷◌, ◌++◌, Bool, true, false, ◌&&◌, leb, length, get_or, drop, Option, MatchOption}
use Rattle.std.proofs.Common.{sym, ap, ap₂, ◌∙◌, add-one, length-append, length-drop, drop-cons}
use Rattle.std.proofs.Math.Bool.{and-true}
use native.Mathlib.Omega.{arith}
use Rattle.std.proofs.Math.ListN.{get_or-eq_default}
use borrow.Author.Tests.{lt-ltb, le-ltb, le-leb, leb-true, leb-false}
use Rattle.xml.specs.Bytes.{Bytes, is_digit, within}
use Rattle.xml.specs.Truth.{clash, and_left, and_right}
use Rattle.timestamp.specs.TimesLaws.{digit_low, digit-high}
use Rattle.timestamp.specs.Digits.{digits, digits-length}
use Rattle.timestamp.specs.Reading.{st, more, steps}
use Rattle.timestamp.specs.Accepts.{digits-steps}
use Rattle.timestamp.specs.declared.text.Number.{Number}

-- the number n at the place `at`, in decimal, and the place `to` after it; n is 0 where none is read there
pub data NumberAt (l : Bytes) (at n to : ℕ) : Type 0 where
  stays : n ≡ 0 → to ≡ at → NumberAt l at n to
  reads : 1 ≤ n → n < 1000 → drop at l ≡ digits n ++ drop to l → at ≤ to → to ≤ length l → NumberAt l at n to

-- the first digit of a number of 1 to 999
abbrev pub is_first : ℕ → Bool
is_first b = leb 49 b && leb b 57

-- the byte at the place `to` is no digit that may follow the number n
abbrev pub Ended : Bytes → ℕ → ℕ → Type 0
Ended l n to = is_digit (get_or l to 0) ≡ true → more n (get_or l to 0) ≡ false

-- what is read at the place `at`: a number, or none
abbrev pub NumberRead : Bytes → ℕ → Option Number → Type 0
NumberRead l at r = MatchOption r (NumberAt l at 0 at × Ended l 0 at) (λ x. (at < x.to) × NumberAt l at x.n x.to × Ended l x.n x.to)

pub ended-past : (l : Bytes) (n to : ℕ) → length l ≤ to → Ended l n to
unfolding is_digit within
ended-past l n to h d = clash (sym d ∙ ap is_digit (get_or-eq_default l 0 h))

pub ended-not : (l : Bytes) (n to : ℕ) → is_digit (get_or l to 0) ≡ false → Ended l n to
ended-not l n to e d = clash (sym d ∙ e)

pub ended-long : (l : Bytes) (n to : ℕ) → 100 ≤ n → Ended l n to
ended-long l n to h d = rw (le-ltb n 100 h)

pub ended-none : (l : Bytes) (at : ℕ) → is_first (get_or l at 0) ≡ false → Ended l 0 at
ended-none l at e d =
    le-ltb 48 (get_or l at 0)
    (omega (arith, leb-false 49 (get_or l at 0) (sym (ap (◌&&◌ (leb 49 (get_or l at 0))) (le-leb (get_or l at 0) 57 (digit-high (get_or l at 0) d)) ∙ and-true (leb 49 (get_or l at 0))) ∙ e)))

-- ---- how a number is read of its bytes
pub drop-one : (l : Bytes) (at : ℕ) → at + 1 ≤ length l → drop at l ≡ get_or l at 0 ∷ drop (at + 1) l
drop-one l at h = drop-cons l at 0 (omega arith) ∙ rw (add-one at)

drop-two : (l : Bytes) (at : ℕ) → at + 2 ≤ length l → drop at l ≡ get_or l at 0 ∷ get_or l (at + 1) 0 ∷ drop (at + 2) l
drop-two l at h =
    let e : at + 1 + 1 ≡ at + 2 = omega arith in
    drop-one l at (omega arith) ∙ ap (λ (s : Bytes). get_or l at 0 ∷ s) (drop-one l (at + 1) (omega arith) ∙ ap (λ (k : ℕ). get_or l (at + 1) 0 ∷ drop k l) e)

drop-three : (l : Bytes) (at : ℕ) → at + 3 ≤ length l → drop at l ≡ get_or l at 0 ∷ get_or l (at + 1) 0 ∷ get_or l (at + 2) 0 ∷ drop (at + 3) l
drop-three l at h =
    let e : at + 2 + 1 ≡ at + 3 = omega arith in
    drop-two l at (omega arith)
    ∙ ap (λ (s : Bytes). get_or l at 0 ∷ get_or l (at + 1) 0 ∷ s) (drop-one l (at + 2) (omega arith) ∙ ap (λ (k : ℕ). get_or l (at + 2) 0 ∷ drop k l) e)

-- the digits of a number, from the bytes
module _ (a : ℕ) (f : is_first a ≡ true) where
  pub low : 49 ≤ a
  low = leb-true 49 a (and_left (leb 49 a) (leb a 57) f)

  pub high : a ≤ 57
  high = leb-true a 57 (and_right (leb 49 a) (leb a 57) f)

  one-is : (n : ℕ) → n ≡ a - 48 → (1 ≤ n) × (n < 1000) × (digits n ≡ a ∷ [])
  unfolding digits
  one-is n e =
      let x : 48 + n ≡ a = omega (arith, low) in
      (omega (arith, low), omega (arith, high), rw (lt-ltb n 10 (omega (arith, high))) (ap (λ (b : ℕ). b ∷ []) x))

  two_is : (n b : ℕ) → is_digit b ≡ true → n ≡ 10 * (a - 48) + (b - 48) → (1 ≤ n) × (n < 1000) × (digits n ≡ a ∷ b ∷ [])
  unfolding digits
  two_is n b g e =
      let u = low in
      let v = high in
      let w = digit_low b g in
      let x = digit-high b g in
      let y : 48 + n / 10 ≡ a = omega arith in
      let z : 48 + n % 10 ≡ b = omega arith in
      (omega arith, omega arith, rw (le-ltb n 10 (omega arith), lt-ltb n 100 (omega arith)) (ap₂ (λ (i j : ℕ). i ∷ j ∷ []) y z))

  three-is : (n b c : ℕ) → is_digit b ≡ true → is_digit c ≡ true → n ≡ 10 * (10 * (a - 48) + (b - 48)) + (c - 48) → (1 ≤ n) × (n < 1000) × (digits n ≡ a ∷ b ∷ c ∷ [])
  unfolding digits
  three-is n b c g h e =
      let u = low in
      let v = high in
      let w = digit_low b g in
      let x = digit-high b g in
      let w' = digit_low c h in
      let x' = digit-high c h in
      let i : 48 + n / 100 ≡ a = omega arith in
      let j : 48 + n / 10 % 10 ≡ b = omega arith in
      let k : 48 + n % 10 ≡ c = omega arith in
      (omega arith, omega arith, rw (le-ltb n 10 (omega arith), le-ltb n 100 (omega arith), i, j, k) refl)

module _ (l : Bytes) (at n : ℕ) (f : is_first (get_or l at 0) ≡ true) where
  pub reads-one : at + 1 ≤ length l → n ≡ get_or l at 0 - 48 → NumberAt l at n (at + 1)
  reads-one h e =
      let x = one-is (get_or l at 0) f n e in
      reads x.0 x.1 (drop-one l at h ∙ ap (λ (s : Bytes). s ++ drop (at + 1) l) (sym x.2)) (omega arith) h

  pub reads_two : at + 2 ≤ length l → is_digit (get_or l (at + 1) 0) ≡ true → n ≡ 10 * (get_or l at 0 - 48) + (get_or l (at + 1) 0 - 48) → NumberAt l at n (at + 2)
  reads_two h g e =
      let x = two_is (get_or l at 0) f n (get_or l (at + 1) 0) g e in
      reads x.0 x.1 (drop-two l at h ∙ ap (λ (s : Bytes). s ++ drop (at + 2) l) (sym x.2)) (omega arith) h

  pub reads_three : at + 3 ≤ length l → is_digit (get_or l (at + 1) 0) ≡ true → is_digit (get_or l (at + 2) 0) ≡ true
      → n ≡ 10 * (10 * (get_or l at 0 - 48) + (get_or l (at + 1) 0 - 48)) + (get_or l (at + 2) 0 - 48) → NumberAt l at n (at + 3)
  reads_three h g k e =
      let x = three-is (get_or l at 0) f n (get_or l (at + 1) 0) (get_or l (at + 2) 0) g k e in
      reads x.0 x.1 (drop-three l at h ∙ ap (λ (s : Bytes). s ++ drop (at + 3) l) (sym x.2)) (omega arith) h

  pub three-long : is_digit (get_or l (at + 1) 0) ≡ true → is_digit (get_or l (at + 2) 0) ≡ true
      → n ≡ 10 * (10 * (get_or l at 0 - 48) + (get_or l (at + 1) 0 - 48)) + (get_or l (at + 2) 0 - 48) → Ended l n (at + 3)
  three-long g k e = ended-long l n (at + 3) (omega (arith, low (get_or l at 0) f, digit_low (get_or l (at + 1) 0) g, digit_low (get_or l (at + 2) 0) k))

-- ---- what the readers make of it
module _ {l : Bytes} {at n to : ℕ} where
  -- three digits at most are read
  pub number-near : NumberAt l at n to → at ≤ length l → to ≤ at + 3
  number-near (stays e f) h = omega arith
  number-near (reads p q e f g) h =
      omega (arith, ap length e, length-append (digits n) (drop to l), length-drop at l, length-drop to l, (digits-length n).1)

  pub number-steps : NumberAt l at n to → (s : ℕ → Bool) (p lo : ℕ) → steps (st s p lo 0) (drop at l) ≡ steps (st s p lo n) (drop to l)
  number-steps (stays e f) s p lo = rw (e, f)
  number-steps (reads i j e f g) s p lo = rw e (digits-steps s p lo n (drop to l) i j)
