-- The bits of a number as truth values, and one law for each operation on words.
use Rattle.std.specs.Prelude.{ℕ, zero, suc, ◌-◌, ◌*◌, ◌/◌, ◌%◌, ◌^◌, ◌<◌, min, max, ◌≡◌, refl, Bool, true, false, ◌&&◌, ◌||◌, eqb, ltb}
use Rattle.std.proofs.Common.{sym, ap, ◌∙◌, mod-lt, div-one, pow-suc, arith, one-add, pow_pos, shr-shr}
use Rattle.std.proofs.Math.Bool.{xor}
use Rattle.std.proofs.Math.Dec.{leb-suc-suc, leb-suc-zero, leb-zero, eqb-zero-suc, eqb-suc-zero, eqb-suc-suc}
use Rattle.std.proofs.Math.Arith.{digits_mod}
use Rattle.std.specs.Int.Bits.{bit_and, bit_or, bit_xor, differ, and_step, or_step, xor_step}
use Rattle.std.proofs.lemmas.Nat.{and_shr, or_shr, xor_shr}

-- bit j of x
unfoldable pub bit : ℕ → ℕ → Bool
bit x j = eqb (x / 2 ^ j % 2) 1

-- what holds of 0 and 1 holds of each number below 2
below_two : (P : ℕ → Type 0) → P 0 → P 1 → (n : ℕ) → n < 2 → P n
below_two P z o zero h = z
below_two P z o (suc zero) h = o
below_two P z o (suc (suc n)) h = absurd (omega arith)

two : 0 < 2
two = omega arith

odds : (f : ℕ → ℕ → ℕ) (g : Bool → Bool → Bool)
    → eqb (f 0 0) 1 ≡ g false false → eqb (f 0 1) 1 ≡ g false true → eqb (f 1 0) 1 ≡ g true false → eqb (f 1 1) 1 ≡ g true true
    → (a b : ℕ) → a < 2 → b < 2 → eqb (f a b) 1 ≡ g (eqb a 1) (eqb b 1)
odds f g p q r s a b ha hb =
    below_two (λ (x : ℕ). eqb (f x b) 1 ≡ g (eqb x 1) (eqb b 1))
    (below_two (λ (y : ℕ). eqb (f 0 y) 1 ≡ g false (eqb y 1)) p q b hb)
    (below_two (λ (y : ℕ). eqb (f 1 y) 1 ≡ g true (eqb y 1)) r s b hb) a ha

pub bit-and : (a b j : ℕ) → bit (bit_and a b) j ≡ (bit a j && bit b j)
unfolding bit
bit-and a b j =
    ap (λ (x : ℕ). eqb (x % 2) 1) (and_shr a b j ∙ and_step (a / 2 ^ j) (b / 2 ^ j))
    ∙ ap (λ (x : ℕ). eqb x 1) (digits_mod (bit_and (a / 2 ^ j / 2) (b / 2 ^ j / 2)) {m = 2} (omega arith))
    ∙ odds min ◌&&◌ refl refl refl refl (a / 2 ^ j % 2) (b / 2 ^ j % 2) (mod-lt _ two) (mod-lt _ two)

pub bit-or : (a b j : ℕ) → bit (bit_or a b) j ≡ (bit a j || bit b j)
unfolding bit
bit-or a b j =
    ap (λ (x : ℕ). eqb (x % 2) 1) (or_shr a b j ∙ or_step (a / 2 ^ j) (b / 2 ^ j))
    ∙ ap (λ (x : ℕ). eqb x 1) (digits_mod (bit_or (a / 2 ^ j / 2) (b / 2 ^ j / 2)) {m = 2} (omega arith))
    ∙ odds max ◌||◌ refl refl refl refl (a / 2 ^ j % 2) (b / 2 ^ j % 2) (mod-lt _ two) (mod-lt _ two)

differ-two : (a b : ℕ) → a < 2 → b < 2 → differ a b < 2
differ-two a b ha hb =
    below_two (λ (x : ℕ). differ x b < 2) hb
    (below_two (λ (y : ℕ). differ 1 y < 2) (omega arith) (omega arith) b hb) a ha

pub bit-xor : (a b j : ℕ) → bit (bit_xor a b) j ≡ xor (bit a j) (bit b j)
unfolding bit xor
bit-xor a b j =
    ap (λ (x : ℕ). eqb (x % 2) 1) (xor_shr a b j ∙ xor_step (a / 2 ^ j) (b / 2 ^ j))
    ∙ ap (λ (x : ℕ). eqb x 1) (digits_mod (bit_xor (a / 2 ^ j / 2) (b / 2 ^ j / 2)) {m = 2} (differ-two (a / 2 ^ j % 2) (b / 2 ^ j % 2) (mod-lt _ two) (mod-lt _ two)))
    ∙ odds differ xor refl refl refl refl (a / 2 ^ j % 2) (b / 2 ^ j % 2) (mod-lt _ two) (mod-lt _ two)

pub bit-zero : (x : ℕ) → bit x 0 ≡ eqb (x % 2) 1
unfolding bit
bit-zero x = ap (λ (n : ℕ). eqb (n % 2) 1) (div-one x)

pub bit-suc : (x j : ℕ) → bit x (suc j) ≡ bit (x / 2) j
unfolding bit
bit-suc x j = ap (λ (n : ℕ). eqb (n % 2) 1) (ap (λ (n : ℕ). x / 2 ^ n) (sym (one-add j)) ∙ sym (shr-shr x 1 j))

pub bit-none : (j : ℕ) → bit 0 j ≡ false
bit-none zero = bit-zero 0
bit-none (suc j) = bit-suc 0 j ∙ bit-none j

pow_even : (k : ℕ) → 2 ^ suc k % 2 ≡ 0
pow_even k = rw (pow-suc 2 k) (omega arith)

pow-half : (k : ℕ) → 2 ^ suc k / 2 ≡ 2 ^ k
pow-half k = rw (pow-suc 2 k) (omega arith)

ones_odd : (k : ℕ) → (2 ^ suc k - 1) % 2 ≡ 1
ones_odd k = rw (pow-suc 2 k) (omega (arith, pow_pos k))

ones_half : (k : ℕ) → (2 ^ suc k - 1) / 2 ≡ 2 ^ k - 1
ones_half k = rw (pow-suc 2 k) (omega (arith, pow_pos k))

-- the bits of a power of two
pub bit-pow : (k j : ℕ) → bit (2 ^ k) j ≡ eqb j k
bit-pow zero zero = bit-zero 1
bit-pow zero (suc j) = bit-suc 1 j ∙ bit-none j ∙ sym (eqb-suc-zero j)
bit-pow (suc k) zero = bit-zero (2 ^ suc k) ∙ ap (λ (n : ℕ). eqb n 1) (pow_even k) ∙ sym (eqb-zero-suc k)
bit-pow (suc k) (suc j) =
    bit-suc (2 ^ suc k) j ∙ ap (λ (n : ℕ). bit n j) (pow-half k) ∙ bit-pow k j ∙ sym (eqb-suc-suc j k)

-- the bits of a mask
pub bit-ones : (k j : ℕ) → bit (2 ^ k - 1) j ≡ ltb j k
bit-ones zero j = bit-none j ∙ sym (leb-suc-zero j)
bit-ones (suc k) zero =
    bit-zero (2 ^ suc k - 1) ∙ ap (λ (n : ℕ). eqb n 1) (ones_odd k)
    ∙ sym (leb-suc-suc 0 k ∙ leb-zero k)
bit-ones (suc k) (suc j) =
    bit-suc (2 ^ suc k - 1) j ∙ ap (λ (n : ℕ). bit n j) (ones_half k) ∙ bit-ones k j
    ∙ sym (leb-suc-suc (suc j) k)

odd-inj : (a b : ℕ) → a < 2 → b < 2 → eqb a 1 ≡ eqb b 1 → a ≡ b
odd-inj a b ha hb =
    below_two (λ (x : ℕ). eqb x 1 ≡ eqb b 1 → x ≡ b)
    (below_two (λ (y : ℕ). false ≡ eqb y 1 → 0 ≡ y) (λ e. refl) (λ e. let z : false ≡ true = e in cc) b hb)
    (below_two (λ (y : ℕ). true ≡ eqb y 1 → 1 ≡ y) (λ e. let z : true ≡ false = e in cc) (λ e. refl) b hb) a ha

-- words with the same bits are equal
pub bits-ext : (k a b : ℕ) → a < 2 ^ k → b < 2 ^ k → ((j : ℕ) → j < k → bit a j ≡ bit b j) → a ≡ b
bits-ext zero a b ha hb h = omega arith
bits-ext (suc k) a b ha hb h =
    let la : a < 2 ^ k * 2 = rw (pow-suc 2 k) at ha in
    let lb : b < 2 ^ k * 2 = rw (pow-suc 2 k) at hb in
    let q : a / 2 ≡ b / 2 = bits-ext k (a / 2) (b / 2) (omega arith) (omega arith)
    (λ j l. sym (bit-suc a j) ∙ h (suc j) (omega arith) ∙ bit-suc b j) in
    let r : a % 2 ≡ b % 2 = odd-inj (a % 2) (b % 2) (mod-lt a two) (mod-lt b two) (sym (bit-zero a) ∙ h 0 (omega arith) ∙ bit-zero b) in
    omega arith
