-- The laws between words and sets: one for each operation on words that the code uses.
use Rattle.std.specs.Prelude.{ℕ, ◌+◌, ◌-◌, ◌*◌, ◌/◌, ◌%◌, ◌^◌, ◌≤◌, ◌<◌, min, ◌≡◌, refl, List, Bool, true, false, not, ◌&&◌, ◌||◌, eqb, leb, ltb, length, get_or, set, replicate}
use Rattle.std.proofs.Common.{sym, ap, ap₂, ◌∙◌, arith, add-one, one-mul, mod-eq_of_lt, length-set, get_or-set_same, get_or-set_other, lt-ltb, le-ltb, le-leb, eq-eqb, ne_eqb}
use Rattle.std.proofs.Math.Path.{fun_ext}
use Rattle.std.proofs.Math.Bool.{and-false, or_assoc, or-false, or-true, xor}
use Rattle.std.proofs.Math.Decide.{dec_lt, ℕ_discrete}
use Rattle.std.proofs.Math.Dec.{leb-suc-suc}
use Rattle.std.specs.Int.Bits.{bit_or, bit_xor}
use Rattle.std.proofs.Math.Pow.{pow-lt}
use Rattle.std.proofs.lemmas.List.{get_or-replicate}
use Rattle.std.proofs.Math.ListN.{get_or-eq_default}
use Rattle.std.proofs.lemmas.Bool.{lt-leb}
use Rattle.timestamp.specs.Bits.{bit, bit-or, bit-xor, bit-none, bit-pow, bit-ones}
use Rattle.timestamp.specs.Set.{set_of, empty_set, adding, joined, between, outside}

-- ---- a loop that fills sixteen words
-- the first i of them are f's
pub record Filled (f : ℕ → ℕ) (i : ℕ) (w : List ℕ) : Type 0 where
  pub size : length w ≡ 16
  pub are : (k : ℕ) → k < i → get_or w k 0 ≡ f k

pub filled_more : (f : ℕ → ℕ) (i : ℕ) (w : List ℕ) (x : ℕ) → Filled f i w → i < 16 → x ≡ f i → Filled f (i + 1) (set w i x)
filled_more f i w x p h e =
    record { size = length-set w i x ∙ p.size; are = λ k l. go k l (dec_lt k i) }
  where
    go : (k : ℕ) → k < i + 1 → Dec (k < i) → get_or (set w i x) k 0 ≡ f k
    go k l (yes q) = get_or-set_other w i k x 0 (omega arith) ∙ p.are k q
    go k l (no q) =
        let z : k ≡ i = omega arith in
        rw z (get_or-set_same w i x 0 (omega (arith, p.size)) ∙ e)

-- no number past the words is in the set
pub past : (w : List ℕ) → length w ≡ 16 → (v : ℕ) → 16 ≤ v / 64 → set_of w v ≡ false
unfolding set_of
past w e v h = ap (λ (x : ℕ). bit x (v % 64)) (get_or-eq_default w 0 (omega arith)) ∙ bit-none (v % 64)

-- sixteen words whose bits are a set's hold that set, if it has no number past them
filled-set : (f : ℕ → ℕ) (i : ℕ) (w : List ℕ) (s : ℕ → Bool) → Filled f i w → 16 ≤ i
    → ((v : ℕ) → v / 64 < 16 → bit (f (v / 64)) (v % 64) ≡ s v)
    → ((v : ℕ) → 16 ≤ v / 64 → s v ≡ false) → set_of w ≡ s
unfolding set_of
filled-set f i w s p l h z = fun_ext (λ v. go v (dec_lt (v / 64) 16))
  where
    go : (v : ℕ) → Dec (v / 64 < 16) → set_of w v ≡ s v
    go v (yes q) = ap (λ (x : ℕ). bit x (v % 64)) (p.are (v / 64) (omega arith)) ∙ h v q
    go v (no q) = past w p.size v (omega arith) ∙ sym (z v (omega arith))

-- ---- what the loops fill
abbrev pub not_at : List ℕ → ℕ → ℕ
not_at a k = bit_xor (get_or a k 0) (2 ^ 64 - 1)

-- word k of the numbers below n
abbrev pub mask_at : ℕ → ℕ → ℕ
mask_at n k = 2 ^ min (n - k * 64) 64 - 1

abbrev pub range_word : ℕ → ℕ → ℕ → ℕ
range_word lo hi k = bit_xor (mask_at (hi + 1) k) (mask_at lo k)

mask-bit : (n v : ℕ) → bit (mask_at n (v / 64)) (v % 64) ≡ ltb v n
mask-bit n v = bit-ones (min (n - v / 64 * 64) 64) (v % 64) ∙ go (dec_lt v n)
  where
    go : Dec (v < n) → ltb (v % 64) (min (n - v / 64 * 64) 64) ≡ ltb v n
    go (yes q) = lt-ltb (v % 64) (min (n - v / 64 * 64) 64) (omega arith) ∙ sym (lt-ltb v n q)
    go (no q) = le-ltb (v % 64) (min (n - v / 64 * 64) 64) (omega arith) ∙ sym (le-ltb v n (omega arith))

ltb-up : (v n : ℕ) → ltb v (n + 1) ≡ leb v n
ltb-up v n = rw (add-one n) (leb-suc-suc v n)

xor_ones : (b : Bool) → xor b true ≡ not b
unfolding xor
xor_ones true = refl
xor_ones false = refl

-- the bits of the words' complement
pub not-bit : (a : List ℕ) (v : ℕ) → v / 64 < 16 → bit (not_at a (v / 64)) (v % 64) ≡ outside (set_of a) v
unfolding set_of
not-bit a v q =
    bit-xor (get_or a (v / 64) 0) (2 ^ 64 - 1) (v % 64)
    ∙ ap (xor (bit (get_or a (v / 64) 0) (v % 64))) (bit-ones 64 (v % 64) ∙ lt-ltb (v % 64) 64 (omega arith))
    ∙ xor_ones (set_of a v) ∙ sym (ap (λ (x : Bool). x && not (set_of a v)) (lt-ltb v 1024 (omega arith)))

pub outside_set : (a w : List ℕ) (i : ℕ) → Filled (not_at a) i w → 16 ≤ i → set_of w ≡ outside (set_of a)
outside_set a w i p l =
    filled-set (not_at a) i w _ p l (not-bit a) (λ v q. ap (λ (x : Bool). x && not (set_of a v)) (le-ltb v 1024 (omega arith)))

-- the bits i to j are those of word k, if they begin and end where the range does, or where the word does
pub bits-run : (lo hi k i j : ℕ) → i ≡ min (lo - k * 64) 64 → j + 1 ≡ min (hi + 1 - k * 64) 64 → bit_xor (2 ^ (j + 1) - 1) (2 ^ i - 1) ≡ range_word lo hi k
bits-run lo hi k i j e f = ap₂ (λ (m n : ℕ). bit_xor (2 ^ m - 1) (2 ^ n - 1)) f e

-- the bits of a range's words
pub range-bit : (lo hi v : ℕ) → lo ≤ hi + 1 → bit (range_word lo hi (v / 64)) (v % 64) ≡ between lo hi v
unfolding xor
range-bit lo hi v le = bit-xor _ _ _ ∙ ap₂ xor (mask-bit (hi + 1) v ∙ ltb-up v hi) (mask-bit lo v) ∙ go (dec_lt v lo)
  where
    not-self : (x : Bool) → xor x false ≡ x
    not-self true = refl
    not-self false = refl

    go : Dec (v < lo) → xor (leb v hi) (ltb v lo) ≡ (leb lo v && leb v hi)
    go (yes q) = rw (lt-ltb v lo q, lt-leb lo v q, le-leb v hi (omega arith))
    go (no q) = rw (le-ltb v lo (omega arith), le-leb lo v (omega arith)) (not-self (leb v hi))

-- one number put into words that have a place for it
pub with-set : (a : List ℕ) (v : ℕ) → v / 64 < length a
    → set_of (set a (v / 64) (bit_or ((1 * 2 ^ (v % 64)) % 2 ^ 64) (get_or a (v / 64) 0))) ≡ adding v (set_of a)
unfolding set_of
with-set a v h = fun_ext (λ u. go u (ℕ_discrete (u / 64) (v / 64)))
  where
    word : ℕ
    word = bit_or ((1 * 2 ^ (v % 64)) % 2 ^ 64) (get_or a (v / 64) 0)

    pow-is : (1 * 2 ^ (v % 64)) % 2 ^ 64 ≡ 2 ^ (v % 64)
    pow-is = rw (one-mul (2 ^ (v % 64))) (mod-eq_of_lt (pow-lt {i = v % 64} {j = 64} (omega arith)))

    here : (u : ℕ) → u / 64 ≡ v / 64 → Dec (u ≡ v) → eqb (u % 64) (v % 64) ≡ eqb u v
    here u e (yes q) = eq-eqb (u % 64) (v % 64) (omega arith) ∙ sym (eq-eqb u v q)
    here u e (no q) = ne_eqb (u % 64) (v % 64) (λ r. q (omega arith)) ∙ sym (ne_eqb u v q)

    go : (u : ℕ) → Dec (u / 64 ≡ v / 64) → bit (get_or (set a (v / 64) word) (u / 64) 0) (u % 64) ≡ (eqb u v || bit (get_or a (u / 64) 0) (u % 64))
    go u (yes e) =
        ap (λ (x : ℕ). bit x (u % 64)) (ap (λ (n : ℕ). get_or (set a (v / 64) word) n 0) e ∙ get_or-set_same a (v / 64) word 0 h)
        ∙ bit-or ((1 * 2 ^ (v % 64)) % 2 ^ 64) (get_or a (v / 64) 0) (u % 64)
        ∙ ap₂ ◌||◌ (ap (λ (x : ℕ). bit x (u % 64)) pow-is ∙ bit-pow (v % 64) (u % 64) ∙ here u e (ℕ_discrete u v))
        (ap (λ (n : ℕ). bit (get_or a n 0) (u % 64)) (sym e))
    go u (no e) =
        ap (λ (x : ℕ). bit x (u % 64)) (get_or-set_other a (v / 64) (u / 64) word 0 e)
        ∙ sym (ap (λ (x : Bool). x || bit (get_or a (u / 64) 0) (u % 64)) (ne_eqb u v (λ r. e (ap (λ (n : ℕ). n / 64) r))))

pub zeros-none : set_of (replicate 16 0) ≡ empty_set
zeros-none =
    filled-set (λ k. 0) 16 (replicate 16 0) empty_set (record { size = refl; are = λ k l. get_or-replicate 16 k 0 0 l }) (omega arith) (λ v q. bit-none _) (λ v q. refl)

-- ---- a range put into sixteen words
-- the words w are those of a, but those before `to` have the numbers lo to hi too
pub record Filling (a : List ℕ) (lo hi to : ℕ) (w : List ℕ) : Type 0 where
  pub size : length w ≡ 16
  pub done : (v : ℕ) → v / 64 < to → set_of w v ≡ (set_of a v || between lo hi v)
  pub rest : (v : ℕ) → to ≤ v / 64 → get_or w (v / 64) 0 ≡ get_or a (v / 64) 0

pub filling-none : (a : List ℕ) (lo hi : ℕ) → length a ≡ 16 → Filling a lo hi (lo / 64) a
filling-none a lo hi e =
    record {
      size = e;
      done = λ v h. sym (ap (◌||◌ (set_of a v)) (rw (lt-leb lo v (omega arith))) ∙ or-false (set_of a v));
      rest = λ v h. refl;
    }

-- one word more
filling_more : {a w : List ℕ} {lo hi to : ℕ} (y : ℕ) → to < 16 → Filling a lo hi to w → ((v : ℕ) → v / 64 ≡ to → bit y (v % 64) ≡ (set_of a v || between lo hi v)) → Filling a lo hi (to + 1) (set w to y)
unfolding set_of
filling_more {a} {w} {lo} {hi} {to} y l p f =
    record {
      size = length-set w to y ∙ p.size;
      done = λ v h. go v h (dec_lt (v / 64) to);
      rest = λ v h. get_or-set_other w to (v / 64) y 0 (omega arith) ∙ p.rest v (omega arith);
    }
  where
    go : (v : ℕ) → v / 64 < to + 1 → Dec (v / 64 < to) → bit (get_or (set w to y) (v / 64) 0) (v % 64) ≡ (bit (get_or a (v / 64) 0) (v % 64) || between lo hi v)
    go v h (yes q) = ap (λ (x : ℕ). bit x (v % 64)) (get_or-set_other w to (v / 64) y 0 (omega arith)) ∙ p.done v q
    go v h (no q) =
        let e : v / 64 ≡ to = omega arith in
        ap (λ (n : ℕ). bit (get_or (set w to y) n 0) (v % 64)) e ∙ ap (λ (x : ℕ). bit x (v % 64)) (get_or-set_same w to y 0 (omega (arith, p.size))) ∙ f v e

-- by the bits that stand for them, or by all of them
pub filling-or : {a w : List ℕ} {lo hi to x : ℕ} → lo ≤ hi → to < 16 → x ≡ range_word lo hi to → Filling a lo hi to w → Filling a lo hi (to + 1) (set w to (bit_or (get_or w to 0) x))
unfolding set_of
filling-or {a} {w} {lo} {hi} {to} {x} le l is p = filling_more (bit_or (get_or w to 0) x) l p (λ v e.
    bit-or _ _ _ ∙ ap₂ ◌||◌ (ap (λ (n : ℕ). bit (get_or w n 0) (v % 64)) (sym e) ∙ ap (λ (n : ℕ). bit n (v % 64)) (p.rest v (omega arith)))
    (ap (λ (n : ℕ). bit n (v % 64)) (is ∙ ap (range_word lo hi) (sym e)) ∙ range-bit lo hi v (omega arith)))

pub filling-ones : {a w : List ℕ} {lo hi to : ℕ} → lo / 64 < to → to < hi / 64 → to < 16 → Filling a lo hi to w → Filling a lo hi (to + 1) (set w to (2 ^ 64 - 1))
filling-ones {a} {w} {lo} {hi} {to} low high l p = filling_more (2 ^ 64 - 1) l p (λ v e.
    bit-ones 64 (v % 64) ∙ lt-ltb (v % 64) 64 (omega arith)
    ∙ sym (ap (◌||◌ (set_of a v)) (rw (le-leb lo v (omega arith), le-leb v hi (omega arith))) ∙ or-true (set_of a v)))

-- all of its words
pub filling-all : {a w : List ℕ} {to : ℕ} (lo hi : ℕ) → Filling a lo hi to w → to ≡ hi / 64 + 1 → set_of w ≡ joined (set_of a) (between lo hi)
unfolding set_of
filling-all {a} {w} {to} lo hi p e = fun_ext (λ v. go v (dec_lt (v / 64) to))
  where
    go : (v : ℕ) → Dec (v / 64 < to) → bit (get_or w (v / 64) 0) (v % 64) ≡ (bit (get_or a (v / 64) 0) (v % 64) || between lo hi v)
    go v (yes q) = p.done v q
    go v (no q) =
        ap (λ (x : ℕ). bit x (v % 64)) (p.rest v (omega arith))
        ∙ sym (ap (◌||◌ (bit (get_or a (v / 64) 0) (v % 64))) (rw (lt-leb v hi (omega arith)) (and-false (leb lo v))) ∙ or-false _)

-- ---- ranges put into a set
-- one that stands in several words: in the first, in those between, in the last
pub joined-parts : (s : ℕ → Bool) (lo hi : ℕ) → lo / 64 < hi / 64
    → joined (joined (joined s (between lo (lo / 64 * 64 + 63))) (between ((lo / 64 + 1) * 64) (hi / 64 * 64 - 1))) (between (hi / 64 * 64) hi) ≡ joined s (between lo hi)
joined-parts s lo hi h =
    fun_ext (λ v.
    or_assoc (s v || between lo (lo / 64 * 64 + 63) v) (between ((lo / 64 + 1) * 64) (hi / 64 * 64 - 1) v) (between (hi / 64 * 64) hi v)
    ∙ or_assoc (s v) (between lo (lo / 64 * 64 + 63) v) (between ((lo / 64 + 1) * 64) (hi / 64 * 64 - 1) v || between (hi / 64 * 64) hi v)
    ∙ ap (◌||◌ (s v)) (go v (lo / 64 * 64 + 63) ((lo / 64 + 1) * 64) (hi / 64 * 64 - 1) (hi / 64 * 64) (omega arith) (omega arith) (omega arith) (omega arith) (omega arith)
    (dec_lt v lo) (dec_lt (lo / 64 * 64 + 63) v) (dec_lt (hi / 64 * 64 - 1) v) (dec_lt hi v)))
  where
    go : (v a b c d : ℕ) → lo ≤ a → b ≡ a + 1 → b ≤ d → d ≡ c + 1 → d ≤ hi → Dec (v < lo) → Dec (a < v) → Dec (c < v) → Dec (hi < v)
        → (between lo a v || (between b c v || between d hi v)) ≡ between lo hi v
    go v a b c d i j k l m (yes q) x y z = rw (lt-leb lo v q, lt-leb b v (omega arith), lt-leb d v (omega arith))
    go v a b c d i j k l m (no q) (no x) y z = rw (le-leb lo v (omega arith), le-leb v a (omega arith), le-leb v hi (omega arith))
    go v a b c d i j k l m (no q) (yes x) (no y) z = rw (le-leb lo v (omega arith), lt-leb v a x, le-leb b v (omega arith), le-leb v c (omega arith), le-leb v hi (omega arith))
    go v a b c d i j k l m (no q) (yes x) (yes y) (no z) =
        rw (le-leb lo v (omega arith), lt-leb v a x, le-leb b v (omega arith), lt-leb v c y, le-leb d v (omega arith), le-leb v hi (omega arith))
    go v a b c d i j k l m (no q) (yes x) (yes y) (yes z) =
        rw (le-leb lo v (omega arith), lt-leb v a x, le-leb b v (omega arith), lt-leb v c y, le-leb d v (omega arith), lt-leb v hi z)

-- one whose end is before its start
pub between_none : (lo hi : ℕ) → hi < lo → empty_set ≡ between lo hi
between_none lo hi h = fun_ext (λ v. go v (dec_lt v lo))
  where
    go : (v : ℕ) → Dec (v < lo) → false ≡ between lo hi v
    go v (yes q) = rw (lt-leb lo v q)
    go v (no q) = rw (lt-leb v hi (omega arith)) (sym (and-false (leb lo v)))

-- a set with one number more is it with the range of that number
pub adding-joined : (s : ℕ → Bool) (v : ℕ) → adding v s ≡ joined s (between v v)
adding-joined s v = fun_ext (λ u. go u (ℕ_discrete u v) (dec_lt u v))
  where
    go : (u : ℕ) → Dec (u ≡ v) → Dec (u < v) → (eqb u v || s u) ≡ (s u || (leb v u && leb u v))
    go u (yes q) d = rw (eq-eqb u v q, le-leb v u (omega arith), le-leb u v (omega arith)) (sym (or-true (s u)))
    go u (no n) (yes q) = rw (ne_eqb u v n, lt-leb v u q) (sym (or-false (s u)))
    go u (no n) (no q) = rw (ne_eqb u v n, lt-leb u v (omega arith), and-false (leb v u)) (sym (or-false (s u)))
