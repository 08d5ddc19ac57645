-- What the writers write, part by part, and that it is the text of the set.
use Rattle.std.specs.Prelude.{ℕ, ◌+◌, ◌-◌, ◌/◌, ◌%◌, ◌≤◌, ◌<◌, min, ◌≡◌, refl, List, [], ◌∷◌, ◌++◌, map, Bool, true, false, not, ◌&&◌, length}
use Rattle.std.proofs.Common.{sym, ap, ◌∙◌, append_assoc, append-nil, arith, length-append, lt-ltb, le-ltb, eq-eqb, ne_eqb}
use Rattle.std.proofs.Math.Decide.{dec_lt, dec_le, ℕ_discrete}
use Rattle.std.proofs.lemmas.Bool.{not-false}
use Rattle.xml.specs.Bytes.{Bytes, bytes, join_by}
use Rattle.xml.specs.Truth.{clash, not_so}
use Rattle.timestamp.specs.Times.{decimal, write_run}
use Rattle.timestamp.specs.Set.{outside, first_in}
use Rattle.timestamp.specs.First.{first-low, first-before, first_member}
use Rattle.timestamp.specs.Runs.{rest, rest_end, rest-skip, rest-run}
use Rattle.timestamp.specs.Digits.{digits, decimal-is, digits-length}

-- ---- numbers and runs
pub decimal-one : (n : ℕ) → 1 ≤ n → n < 10 → decimal n ≡ (48 + n) ∷ []
unfolding digits
decimal-one n l h = decimal-is n l (omega arith) ∙ rw (lt-ltb n 10 h)

pub decimal-two : (n : ℕ) → 10 ≤ n → n < 100 → decimal n ≡ (48 + n / 10) ∷ (48 + n % 10) ∷ []
unfolding digits
decimal-two n l h = decimal-is n (omega arith) (omega arith) ∙ rw (le-ltb n 10 l, lt-ltb n 100 h)

pub decimal-three : (n : ℕ) → 100 ≤ n → n < 1000 → decimal n ≡ (48 + n / 100) ∷ (48 + n / 10 % 10) ∷ (48 + n % 10) ∷ []
unfolding digits
decimal-three n l h = decimal-is n (omega arith) (omega arith) ∙ rw (le-ltb n 10 (omega arith), le-ltb n 100 l)

pub decimal-short : (n : ℕ) → 1 ≤ n → n < 1000 → (1 ≤ length (decimal n)) × (length (decimal n) ≤ 3)
decimal-short n l h = rw (decimal-is n l (omega arith)) (digits-length n)

pub run-same : (lo hi : ℕ) → lo ≡ hi → write_run (lo, hi) ≡ decimal lo
unfolding write_run
run-same lo hi e = rw (eq-eqb lo hi e, write_run)

pub run_long : (lo hi : ℕ) → (lo ≡ hi → ⊥) → write_run (lo, hi) ≡ decimal lo ++ 45 ∷ [] ++ decimal hi
unfolding write_run bytes
run_long lo hi e = rw (ne_eqb lo hi e, write_run)

-- a run, after a comma where one is before it
abbrev pub part : Bool → ℕ × ℕ → Bytes
part true r = 44 ∷ [] ++ write_run r
part false r = write_run r

pub run_short : (lo hi : ℕ) → 1 ≤ lo → lo ≤ hi → hi < 1000 → (1 ≤ length (write_run (lo, hi))) × (length (write_run (lo, hi)) ≤ 7)
run_short lo hi a b h = go (ℕ_discrete lo hi)
  where
    go : Dec (lo ≡ hi) → (1 ≤ length (write_run (lo, hi))) × (length (write_run (lo, hi)) ≤ 7)
    go (yes e) = let d = decimal-short lo a (omega arith) in rw (run-same lo hi e) (d.0, omega (arith, d.1))
    go (no e) =
        let d = decimal-short lo a (omega arith) in
        let d' = decimal-short hi (omega arith) h in
        rw (run_long lo hi e, length-append (decimal lo ++ 45 ∷ []) (decimal hi), length-append (decimal lo) (45 ∷ [])) (omega (arith, d.0), omega (arith, d.1, d'.1))

pub part-short : (b : Bool) (lo hi : ℕ) → 1 ≤ lo → lo ≤ hi → hi < 1000 → (1 ≤ length (part b (lo, hi))) × (length (part b (lo, hi)) ≤ 8)
part-short true lo hi x y h = let d = run_short lo hi x y h in (omega arith, omega (arith, d.1))
part-short false lo hi x y h = let d = run_short lo hi x y h in (d.0, omega (arith, d.1))

-- of two numbers of three digits
pub part-three : (lo hi : ℕ) {a b c d e f : ℕ} → 100 ≤ lo → lo < hi → hi < 1000 → a ≡ 48 + lo / 100 → b ≡ 48 + lo / 10 % 10 → c ≡ 48 + lo % 10
    → d ≡ 48 + hi / 100 → e ≡ 48 + hi / 10 % 10 → f ≡ 48 + hi % 10 → part true (lo, hi) ≡ 44 ∷ a ∷ b ∷ c ∷ 45 ∷ d ∷ e ∷ f ∷ []
part-three lo hi l m h p q r s t u =
    rw (p, q, r, s, t, u) (rw (run_long lo hi (λ z. omega arith), decimal-three lo l (omega arith), decimal-three hi (omega arith) h) refl)

-- ---- runs after each other
unfoldable pub following : Bool → List (ℕ × ℕ) → Bytes
following b [] = []
following b (r ∷ rs) = part b r ++ following true rs

pub joined-following : (rs : List (ℕ × ℕ)) → join_by (44 ∷ []) (map write_run rs) ≡ following false rs
unfolding join_by following
joined-following [] = refl
joined-following (r ∷ []) = sym (append-nil (write_run r))
joined-following (r ∷ q ∷ rs) =
    append_assoc (write_run r) (44 ∷ []) (join_by (44 ∷ []) (map write_run (q ∷ rs)))
    ∙ ap (λ (x : Bytes). write_run r ++ (44 ∷ x)) (joined-following (q ∷ rs))

-- ---- from run to run
module _ (s : ℕ → Bool) where
  -- up to the next member
  pub rest-next : (v : ℕ) → v ≤ 1000 → rest s v ≡ rest s (first_in (1024 - v) s v)
  rest-next v h = go (dec_le (first_in (1024 - v) s v) 1000)
    where
      m : ℕ
      m = first_in (1024 - v) s v

      low : v ≤ m
      low = first-low s (1024 - v) v

      go : Dec (m ≤ 1000) → rest s v ≡ rest s m
      go (yes q) =
          let e : v + (m - v) ≡ m = omega (arith, low) in
          rest-skip s (m - v) v (omega (arith, low)) (λ u a b. first-before s (1024 - v) v u a (omega (arith, low))) ∙ ap (rest s) e
      go (no q) =
          rest-skip s (1000 - v) v (omega arith) (λ u a b. first-before s (1024 - v) v u a (omega arith))
          ∙ rest_end s (v + (1000 - v)) (omega arith) ∙ sym (rest_end s m (omega arith))

  -- up to the end of the run
  module _ (lo e : ℕ) (h : lo < 1000) (i : s lo ≡ true) (d : e ≡ min (first_in (1024 - lo) (outside s) lo) 1000) where
    abbrev f : ℕ
    f = first_in (1024 - lo) (outside s) lo

    out-is : (u : ℕ) → u < 1024 → outside s u ≡ not (s u)
    out-is u l = ap (λ (x : Bool). x && not (s u)) (lt-ltb u 1024 l)

    pub run_past : lo < e
    run_past = go (dec_lt lo f)
      where
        go : Dec (lo < f) → lo < e
        go (yes q) = omega (arith, d)
        go (no q) =
            let low = first-low (outside s) (1024 - lo) lo in
            let z : f ≡ lo = omega arith in
            clash (sym (first_member (outside s) (1024 - lo) lo (omega arith)) ∙ ap (outside s) z ∙ out-is lo (omega arith) ∙ ap not i)

    inside : (u : ℕ) → lo ≤ u → u < e → s u ≡ true
    inside u a b = not-false (s u) (sym (out-is u (omega (arith, d))) ∙ first-before (outside s) (1024 - lo) lo u a (omega (arith, d)))

    ends : e < 1000 → s e ≡ false
    ends l =
        let z : f ≡ e = omega (arith, d) in
        not_so (s e) (λ t. clash (sym (first_member (outside s) (1024 - lo) lo (omega arith)) ∙ ap (outside s) z ∙ out-is e (omega arith) ∙ ap not t))

    pub rest-first : rest s lo ≡ (lo, e - 1) ∷ rest s (first_in (1024 - e) s e)
    rest-first =
        let p = run_past in
        let x : lo + (e - 1 - lo) ≡ e - 1 = omega arith in
        let y : e - 1 + 1 ≡ e = omega arith in
        (rw (x, y) at (rest-run s (e - 1 - lo) lo (omega (arith, d)) (λ u a b. inside u a (omega arith)) (λ b. let z : lo + (e - 1 - lo) + 1 ≡ e = omega arith in ap s z ∙ ends (omega arith))))
        ∙ ap (λ (l : List (ℕ × ℕ)). (lo, e - 1) ∷ l) (rest-next e (omega (arith, d)))
