-- A number of 1 to 999 in decimal by its size, and the text of runs with what comes after.
use Rattle.std.specs.Prelude.{ℕ, ◌+◌, ◌*◌, ◌/◌, ◌%◌, ◌≤◌, ◌<◌, ◌≡◌, refl, List, [], ◌∷◌, ◌++◌, map, Bool, true, false, ltb, length}
use Rattle.std.proofs.Common.{sym, ap, ap₂, ◌∙◌, append_assoc, append-nil, lt-ltb, le-ltb, eq-eqb, ne_eqb}
use native.Mathlib.Omega.{arith}
use Rattle.std.proofs.Math.Decide.{dec_lt}
use Rattle.xml.specs.Bytes.{Bytes, bytes, all, same, join_by}
use Rattle.xml.specs.BytesLaws.{same-is}
use Rattle.timestamp.specs.Times.{up_from, decimal, write_run, times_compute}
use Rattle.timestamp.specs.TimesLaws.{all_from}
use Rattle.timestamp.specs.Runs.{Asc}

abbrev pub pick : Bool → Bytes → Bytes → Bytes
pick true a b = a
pick false a b = b

abbrev pub digit : ℕ → ℕ
digit d = 48 + d

-- a number below 1000 in decimal
unfoldable pub digits : ℕ → Bytes
digits n =
    pick (ltb n 10) (digit n ∷ [])
    (pick (ltb n 100) (digit (n / 10) ∷ digit (n % 10) ∷ []) (digit (n / 100) ∷ digit (n / 10 % 10) ∷ digit (n % 10) ∷ []))

all-decimal : all (λ n. same (decimal n) (digits n)) (up_from 1 999) ≡ true
unfolding times_compute digits
all-decimal = refl

pub decimal-is : (n : ℕ) → 1 ≤ n → n ≤ 999 → decimal n ≡ digits n
decimal-is n l h = same-is (decimal n) (digits n) (all_from (λ n. same (decimal n) (digits n)) 1 999 n all-decimal l (omega arith))

pub digits-length : (m : ℕ) → (1 ≤ length (digits m)) × (length (digits m) ≤ 3)
unfolding digits
digits-length m = go (ltb m 10) (ltb m 100)
  where
    long : Bytes → Type 0
    long s = (1 ≤ length s) × (length s ≤ 3)

    go : (b c : Bool) → long (pick b (digit m ∷ []) (pick c (digit (m / 10) ∷ digit (m % 10) ∷ []) (digit (m / 100) ∷ digit (m / 10 % 10) ∷ digit (m % 10) ∷ [])))
    go true c = (omega arith, omega arith)
    go false true = (omega arith, omega arith)
    go false false = (omega arith, omega arith)

-- what goes on by a number's digits goes on by the number
module _ {A : Type 0} (f : ℕ → Bytes → A) (on : (n d : ℕ) (l : Bytes) → n < 100 → d < 10 → 0 < n + d → f n (digit d ∷ l) ≡ f (n * 10 + d) l) where
  pub by_digits : (m : ℕ) (l : Bytes) → 0 < m → m < 1000 → f 0 (digits m ++ l) ≡ f m l
  unfolding digits
  by_digits m l z h = go (dec_lt m 10) (dec_lt m 100)
    where
      one : 0 * 10 + m ≡ m
      one = omega arith

      two : (0 * 10 + m / 10) * 10 + m % 10 ≡ m
      two = omega arith

      three : ((0 * 10 + m / 100) * 10 + m / 10 % 10) * 10 + m % 10 ≡ m
      three = omega arith

      go : Dec (m < 10) → Dec (m < 100) → f 0 (digits m ++ l) ≡ f m l
      go (yes q) r = rw (lt-ltb m 10 q) (on 0 m l (omega arith) (omega arith) (omega arith) ∙ ap (λ (x : ℕ). f x l) one)
      go (no q) (yes r) =
          rw (le-ltb m 10 (omega arith), lt-ltb m 100 r)
          (on 0 (m / 10) (digit (m % 10) ∷ l) (omega arith) (omega arith) (omega arith)
          ∙ on (0 * 10 + m / 10) (m % 10) l (omega arith) (omega arith) (omega arith) ∙ ap (λ (x : ℕ). f x l) two)
      go (no q) (no r) =
          rw (le-ltb m 10 (omega arith), le-ltb m 100 (omega arith))
          (on 0 (m / 100) (digit (m / 10 % 10) ∷ digit (m % 10) ∷ l) (omega arith) (omega arith) (omega arith)
          ∙ on (0 * 10 + m / 100) (m / 10 % 10) (digit (m % 10) ∷ l) (omega arith) (omega arith) (omega arith)
          ∙ on ((0 * 10 + m / 100) * 10 + m / 10 % 10) (m % 10) l (omega arith) (omega arith) (omega arith)
          ∙ ap (λ (x : ℕ). f x l) three)

-- ---- a run, and then more
unfoldable pub run_text : ℕ → ℕ → Bytes → Bytes
run_text lo hi l = pick (ltb lo hi) (digits lo ++ (45 ∷ (digits hi ++ l))) (digits lo ++ l)

unfoldable pub tail_text : List (ℕ × ℕ) → Bytes
tail_text [] = []
tail_text (r ∷ rs) = 44 ∷ run_text r.0 r.1 (tail_text rs)

unfoldable pub text : List (ℕ × ℕ) → Bytes
text [] = []
text (r ∷ rs) = run_text r.0 r.1 (tail_text rs)

pub run-one : (n : ℕ) → 1 ≤ n → n ≤ 999 → write_run (n, n) ≡ digits n
unfolding write_run
run-one n l h = rw (eq-eqb n n refl, write_run) (decimal-is n l h)

pub run-two : (lo hi : ℕ) → 1 ≤ lo → lo < hi → hi ≤ 999 → write_run (lo, hi) ≡ digits lo ++ 45 ∷ [] ++ digits hi
unfolding write_run bytes
run-two lo hi l m h =
    rw (ne_eqb lo hi (λ e. omega arith), write_run) (ap₂ (λ (x y : Bytes). x ++ 45 ∷ [] ++ y) (decimal-is lo l (omega arith)) (decimal-is hi (omega arith) h))

pub run-text : (lo hi : ℕ) (l : Bytes) → 1 ≤ lo → lo ≤ hi → hi ≤ 999 → write_run (lo, hi) ++ l ≡ run_text lo hi l
unfolding run_text
run-text lo hi l a b h = go (dec_lt lo hi)
  where
    go : Dec (lo < hi) → write_run (lo, hi) ++ l ≡ run_text lo hi l
    go (yes q) = rw (lt-ltb lo hi q, run-two lo hi a q h) (simp append_assoc)
    go (no q) = let e : hi ≡ lo = omega arith in rw (le-ltb lo hi (omega arith), e, run-one lo a (omega arith))

-- the text of ascending runs, as the definition joins it
joined-tail : (p : ℕ) (r : ℕ × ℕ) (rs : List (ℕ × ℕ)) → Asc p (r ∷ rs) → join_by (44 ∷ []) (map write_run (r ∷ rs)) ≡ run_text r.0 r.1 (tail_text rs)
unfolding join_by tail_text
joined-tail p r [] a = sym (append-nil (write_run r)) ∙ run-text r.0 r.1 [] (omega (arith, a.0)) a.1 (omega (arith, a.2))
joined-tail p r (q ∷ rs) a =
    append_assoc (write_run r) (44 ∷ []) (join_by (44 ∷ []) (map write_run (q ∷ rs)))
    ∙ ap (λ (x : Bytes). write_run r ++ (44 ∷ x)) (joined-tail (r.1 + 1) q rs a.3)
    ∙ run-text r.0 r.1 (44 ∷ run_text q.0 q.1 (tail_text rs)) (omega (arith, a.0)) a.1 (omega (arith, a.2))

pub text-joined : (rs : List (ℕ × ℕ)) → Asc 0 rs → join_by (bytes ",") (map write_run rs) ≡ text rs
unfolding text join_by bytes
text-joined [] a = refl
text-joined (r ∷ rs) a = joined-tail 0 r rs a
