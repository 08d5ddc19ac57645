-- Bytes folded into a hash: byte by byte, and sixteen at once by weights.
use Rattle.std.specs.Prelude.{ℕ, ◌+◌, ◌-◌, ◌*◌, ◌/◌, ◌%◌, ◌^◌, ◌≤◌, ◌<◌, ◌≡◌, refl, [], ◌∷◌, ◌++◌, length}
use Rattle.std.proofs.Common.{div-add-mod', mul-le-mul, arith, sym, ◌∙◌}
use Rattle.std.proofs.Math.Nat.{mul-add-mod_self_right}
use Rattle.std.proofs.Math.Path.{ap}
use Rattle.std.proofs.Math.ListN.{get_or}
use Rattle.std.proofs.Math.Seq.{slice, slice_empty}
use Rattle.xml.specs.Bytes.{Bytes}
use Rattle.xml.specs.Read.{unescape}
use Rattle.xml.specs.SignLaws.{Running, slice_first}
use Rattle.xml.specs.WriteLaws.{slice-split}
use Rattle.versions.specs.Hashes.{mixed, folded}

-- the sum of the four bytes from i on, each times its weight
unfoldable pub weighed : Bytes → ℕ → ℕ → ℕ → ℕ → ℕ → ℕ
weighed s i w x y z = get_or s i 0 * w + get_or s (i + 1) 0 * x + get_or s (i + 2) 0 * y + get_or s (i + 3) 0 * z

-- a byte times a weight is small
pub weigh-small : (b w : ℕ) → b < 256 → w < 65536 → b * w < 16777216
weigh-small b w h k =
    let z : b * w ≤ 255 * 65535 = mul-le-mul {n₂ = 255} {m₂ = 65535} (omega arith) (omega arith) in
    omega arith

-- ---- remainders
-- a number that is some multiple of 65,536 larger
mod_same : (x y q : ℕ) → x ≡ q * 65536 + y → x % 65536 ≡ y % 65536
mod_same x y q e = ap (λ (n : ℕ). n % 65536) e ∙ mul-add-mod_self_right q 65536 y

-- what is multiplied and added to may be the remainder
mod-step : (x k b : ℕ) → (x % 65536 * k + b) % 65536 ≡ (x * k + b) % 65536
mod-step x k b =
    let e = div-add-mod' x 65536 in
    let f : x * k + b ≡ x / 65536 * k * 65536 + (x % 65536 * k + b) = ap (λ (n : ℕ). n * k + b) (sym e) ∙ (omega arith) in
    sym (mod_same (x * k + b) (x % 65536 * k + b) (x / 65536 * k) f)

-- ---- by powers of 31
-- four numbers
four-mixed : (h a b c d : ℕ) → mixed (mixed (mixed (mixed h a) b) c) d ≡ (h * 31 ^ 4 + (a * 29791 + b * 961 + c * 31 + d * 1)) % 65536
unfolding mixed
four-mixed h a b c d = simp mod-step (ap (λ (n : ℕ). n % 65536) (omega arith))

-- four bytes
abbrev four : Bytes → ℕ → ℕ
four s i = weighed s i 29791 961 31 1

-- four times four bytes, their weights reduced
block-sum : (s : Bytes) (i h : ℕ)
    → ((((h * 31 ^ 4 + four s i) % 65536 * 31 ^ 4 + four s (i + 4)) % 65536 * 31 ^ 4 + four s (i + 8)) % 65536 * 31 ^ 4 + four s (i + 12)) % 65536
    ≡ (h * 56833 % 65536 + weighed s i 56799 27201 51615 1665 + weighed s (i + 4) 42335 45761 28959 28417 + weighed s (i + 8) 11487 15169 55455 6017
    + weighed s (i + 12) 29791 961 31 1) % 65536
unfolding weighed
block-sum s i h =
    let a = weighed s i (31 ^ 15 / 65536) (31 ^ 14 / 65536) (31 ^ 13 / 65536) (31 ^ 12 / 65536) in
    let b = weighed s (i + 4) (31 ^ 11 / 65536) (31 ^ 10 / 65536) (31 ^ 9 / 65536) (31 ^ 8 / 65536) in
    let c = weighed s (i + 8) (31 ^ 7 / 65536) (31 ^ 6 / 65536) (31 ^ 5 / 65536) (31 ^ 4 / 65536) in
    simp mod-step (mod_same _ _ (h * (31 ^ 16 / 65536) + h * 56833 / 65536 + a + b + c) (omega arith))

-- ---- at the place i of a text: n is the place after what is folded
module _ (s : Bytes) (e : ℕ) (k : e ≤ length s) where
  -- one byte
  pub fold-byte : (i n h : ℕ) → i < e → n ≡ i + 1 → folded h (slice i e s) ≡ folded (mixed h (get_or s i 0)) (slice n e s)
  unfolding folded
  fold-byte i n h l m = ap (folded h) (slice_first i e s l k) ∙ ap (λ (x : ℕ). folded (mixed h (get_or s i 0)) (slice x e s)) (sym m)

  -- four bytes
  fold-four : (i n h : ℕ) → i + 4 ≤ e → n ≡ i + 4 → folded h (slice i e s) ≡ folded ((h * 31 ^ 4 + four s i) % 65536) (slice n e s)
  unfolding weighed
  fold-four i n h l m =
      let x = get_or s i 0 in
      let y = get_or s (i + 1) 0 in
      let z = get_or s (i + 2) 0 in
      fold-byte i (i + 1) h (omega arith) (omega arith)
      ∙ fold-byte (i + 1) (i + 2) (mixed h x) (omega arith) (omega arith)
      ∙ fold-byte (i + 2) (i + 3) (mixed (mixed h x) y) (omega arith) (omega arith)
      ∙ fold-byte (i + 3) n (mixed (mixed (mixed h x) y) z) (omega arith) (omega arith)
      ∙ ap (λ (v : ℕ). folded v (slice n e s)) (four-mixed h x y z (get_or s (i + 3) 0))

pub fold-none : (s : Bytes) (e h : ℕ) → folded h (slice e e s) ≡ h
unfolding folded
fold-none s e h = rw (slice_empty e s)

-- sixteen bytes, from the sums of each four
pub fold-sixteen : (s : Bytes) (i h : ℕ) {v w x y : ℕ} → i + 16 ≤ length s → v ≡ weighed s i 56799 27201 51615 1665
    → w ≡ weighed s (i + 4) 42335 45761 28959 28417 → x ≡ weighed s (i + 8) 11487 15169 55455 6017 → y ≡ weighed s (i + 12) 29791 961 31 1
    → (h * 56833 % 65536 + v + w + x + y) % 65536 ≡ folded h (slice i (i + 16) s)
fold-sixteen s i h k p q r t =
    let e = i + 16 in
    let a = (h * 31 ^ 4 + four s i) % 65536 in
    let b = (a * 31 ^ 4 + four s (i + 4)) % 65536 in
    let c = (b * 31 ^ 4 + four s (i + 8)) % 65536 in
    let d = (c * 31 ^ 4 + four s (i + 12)) % 65536 in
    rw (p, q, r, t)
    (sym
    (fold-four s e k i (i + 4) h (omega arith) refl
    ∙ fold-four s e k (i + 4) (i + 8) a (omega arith) (omega arith)
    ∙ fold-four s e k (i + 8) (i + 12) b (omega arith) (omega arith)
    ∙ fold-four s e k (i + 12) e c (omega arith) (omega arith)
    ∙ fold-none s e d
    ∙ block-sum s i h))

-- some bytes, and the others
folded-append : (h : ℕ) (s t : Bytes) → folded h (s ++ t) ≡ folded (folded h s) t
unfolding folded
folded-append h [] t = refl
folded-append h (b ∷ s) t = folded-append (mixed h b) s t

pub fold-part : (src : Bytes) (i m e h : ℕ) → i ≤ m → m ≤ e → e ≤ length src → folded h (slice i e src) ≡ folded (folded h (slice i m src)) (slice m e src)
fold-part src i m e h l g k =
    let z : e ≡ m + (e - m) = omega arith in
    ap (folded h) (ap (λ (x : ℕ). slice i x src) z ∙ slice-split i m (e - m) src l (omega arith) ∙ ap (λ (x : ℕ). slice i m src ++ slice m x src) (sym z))
    ∙ folded-append h (slice i m src) (slice m e src)

-- a run of text: the bytes i to j stand for themselves
pub fold-running : {src : Bytes} {i e j : ℕ} (h : ℕ) → Running src i e j
    → folded h (unescape 0 (slice i e src)) ≡ folded (folded h (slice i j src)) (unescape 0 (slice j e src))
fold-running {src} {i} {e} {j} h r = ap (folded h) r.means ∙ folded-append h (slice i j src) (unescape 0 (slice j e src))
