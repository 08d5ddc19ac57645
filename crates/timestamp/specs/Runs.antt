-- The runs of a set, one after another: from a number on, numbers that are no members are passed, and a maximal run comes first.
-- Ascending runs with gaps are the runs of the set that they hold.
use Prim.Native.Nat.{ℕ, zero, suc, ◌+◌, ◌-◌, ◌≤◌, ◌<◌}
use Rattle.std.specs.Prelude.{◌≡◌, List, [], ◌∷◌, ◌++◌, map, Bool, true, false, eqb, length, get_or, take, replicate}
use Rattle.std.proofs.Math.Path.{refl, ap}
use Rattle.std.proofs.Common.{sym, ap₂, ◌∙◌, eq-eqb, ne_eqb}
use native.Mathlib.Omega.{arith}
use Rattle.std.proofs.Math.Decide.{dec_lt}
use Rattle.std.proofs.lemmas.Bool.{lt-leb, eqb-false}
use Rattle.xml.specs.Bytes.{any}
use Rattle.xml.specs.Truth.{not_so, bool_by, or-first}
use Rattle.timestamp.specs.Times.{Times, up_from, extend, runs}
use Rattle.timestamp.specs.TimesLaws.{in_run, in-run, run_in_lem}

-- each run begins past p and ends before m, and leaves a gap to the next
abbrev pub AscTo : ℕ → ℕ → List (ℕ × ℕ) → Type 0
AscTo m p [] = Unit {0}
AscTo m p (r ∷ rs) = (p < r.0) × (r.0 ≤ r.1) × (r.1 < m) × AscTo m (r.1 + 1) rs

-- likewise, at 999 or before
abbrev pub Asc : ℕ → List (ℕ × ℕ) → Type 0
Asc = AscTo 1000

-- the set that runs hold
abbrev pub in_runs : List (ℕ × ℕ) → ℕ → Bool
in_runs rs v = any (in_run v) rs

-- the runs of the numbers from i to 999
unfoldable pub rest : (ℕ → Bool) → ℕ → List (ℕ × ℕ)
rest s i = runs i (map s (up_from i (1000 - i)))

-- ---- presence lists of sets
module _ (s : ℕ → Bool) where
  pub length_from : (i n : ℕ) → length (map s (up_from i n)) ≡ n
  unfolding up_from
  length_from i zero = refl
  length_from i (suc n) = ap suc (length_from (suc i) n)

  pub get_d-from : (i n k : ℕ) → k < n → get_or (map s (up_from i n)) k false ≡ s (i + k)
  unfolding up_from
  get_d-from i zero k h = absurd (omega arith)
  get_d-from i (suc n) zero h = let e : i + 0 ≡ i = omega arith in rw e
  get_d-from i (suc n) (suc k) h = let e : i + suc k ≡ suc i + k = omega arith in rw e (get_d-from (suc i) n k (omega arith))

  pub from-snoc : (i n : ℕ) → map s (up_from i (suc n)) ≡ map s (up_from i n) ++ s (i + n) ∷ []
  unfolding up_from
  from-snoc i zero = let e : i + 0 ≡ i = omega arith in rw e
  from-snoc i (suc n) = let e : i + suc n ≡ suc i + n = omega arith in rw e (ap (λ (l : Times). s i ∷ l) (from-snoc (suc i) n))

  pub from-take : (i n k : ℕ) → k ≤ n → take k (map s (up_from i n)) ≡ map s (up_from i k)
  unfolding up_from
  from-take i n zero h = refl
  from-take i zero (suc k) h = absurd (omega arith)
  from-take i (suc n) (suc k) h = ap (λ (l : Times). s i ∷ l) (from-take (suc i) n k (omega arith))

pub from-always : (b : Bool) (i n : ℕ) → map (λ (v : ℕ). b) (up_from i n) ≡ replicate n b
unfolding up_from
from-always b i zero = refl
from-always b i (suc n) = ap (λ (l : Times). b ∷ l) (from-always b (suc i) n)

pub from-cong : (s t : ℕ → Bool) (i n : ℕ) → ((u : ℕ) → i ≤ u → u < i + n → s u ≡ t u) → map s (up_from i n) ≡ map t (up_from i n)
unfolding up_from
from-cong s t i zero h = refl
from-cong s t i (suc n) h = ap₂ (λ (b : Bool) (l : Times). b ∷ l) (h i (omega arith) (omega arith)) (from-cong s t (suc i) n (λ u a b. h u (omega arith) (omega arith)))

-- ---- runs ascend
pub asc-weaken : (p q : ℕ) (rs : List (ℕ × ℕ)) → p ≤ q → Asc q rs → Asc p rs
asc-weaken p q [] h a = tt
asc-weaken p q (r ∷ rs) h a = (omega (arith, a.0), a.1, a.2, a.3)

asc-extend : (m p i : ℕ) (rs : List (ℕ × ℕ)) → p < i → i < m → AscTo m i rs → AscTo m p (extend i rs)
unfolding extend
asc-extend m p i [] l h a = (l, omega arith, h, tt)
asc-extend m p i (r ∷ rs) l h a =
    bool_by (λ x. eqb r.0 (suc i) ≡ x → AscTo m p (elim x as (λ _. List (ℕ × ℕ)) [ true ↦ (i, r.1) ∷ rs | false ↦ (i, i) ∷ r ∷ rs ])) (eqb r.0 (suc i))
    (λ _ e. (l, omega (arith, a.0, a.1), a.2, a.3))
    (λ _ e. (l, omega arith, h, ((let z = eqb-false r.0 (suc i) e in omega (arith, a.0, z)), a.1, a.2, a.3))) refl

pub asc-runs : (m p i : ℕ) (t : Times) → p < i → i + length t ≤ m → AscTo m p (runs i t)
unfolding runs
asc-runs m p i [] l h = tt
asc-runs m p i (false ∷ t) l h = asc-runs m p (suc i) t (omega arith) (omega arith)
asc-runs m p i (true ∷ t) l h = asc-extend m p i (runs (suc i) t) l (omega arith) (asc-runs m i (suc i) t (omega arith) (omega arith))

extend-far : (i : ℕ) (rs : List (ℕ × ℕ)) → Asc (suc i) rs → extend i rs ≡ (i, i) ∷ rs
unfolding extend
extend-far i [] a = refl
extend-far i (r ∷ rs) a = rw (ne_eqb r.0 (suc i) (λ e. omega (arith, a.0)), extend)

extend-next : (i j : ℕ) (rs : List (ℕ × ℕ)) → extend i ((suc i, j) ∷ rs) ≡ (i, j) ∷ rs
unfolding extend
extend-next i j rs = rw (eq-eqb (suc i) (suc i) refl, extend)

-- ---- the runs from a number on
module _ (s : ℕ → Bool) where
  rest-step : (i : ℕ) → i < 1000 → rest s i ≡ runs i (s i ∷ map s (up_from (suc i) (1000 - suc i)))
  unfolding rest up_from
  rest-step i h = let e : 1000 - i ≡ suc (1000 - suc i) = omega arith in rw e

  rest_out : (i : ℕ) → i < 1000 → s i ≡ false → rest s i ≡ rest s (suc i)
  unfolding rest runs
  rest_out i h e = rest-step i h ∙ rw (e, runs)

  rest_in : (i : ℕ) → i < 1000 → s i ≡ true → rest s i ≡ extend i (rest s (suc i))
  unfolding rest runs
  rest_in i h e = rest-step i h ∙ rw (e, runs)

  pub rest_end : (i : ℕ) → 1000 ≤ i → rest s i ≡ []
  unfolding rest up_from runs
  rest_end i h = let e : 1000 - i ≡ 0 = omega arith in rw e

  rest-asc : (p i : ℕ) → p < i → i ≤ 1000 → Asc p (rest s i)
  unfolding rest
  rest-asc p i l h = asc-runs 1000 p i (map s (up_from i (1000 - i))) l (rw (length_from s i (1000 - i)) (omega arith))

  -- numbers that are no members are passed
  pub rest-skip : (d i : ℕ) → i + d ≤ 1000 → ((u : ℕ) → i ≤ u → u < i + d → s u ≡ false) → rest s i ≡ rest s (i + d)
  rest-skip zero i h f = let e : i + 0 ≡ i = omega arith in rw e
  rest-skip (suc d) i h f =
      let e : i + suc d ≡ suc i + d = omega arith in
      rw e (rest_out i (omega arith) (f i (omega arith) (omega arith)) ∙ rest-skip d (suc i) (omega arith) (λ u a b. f u (omega arith) (omega arith)))

  -- a maximal run comes first
  pub rest-run : (d i : ℕ) → i + d < 1000 → ((u : ℕ) → i ≤ u → u ≤ i + d → s u ≡ true) → (i + d + 1 < 1000 → s (i + d + 1) ≡ false)
      → rest s i ≡ (i, i + d) ∷ rest s (i + d + 1)
  rest-run zero i h f g =
      let e : i + 0 ≡ i = omega arith in
      let e' : i + 0 + 1 ≡ suc i = omega arith in
      rw (e', e) (rest_in i (omega arith) (f i (omega arith) (omega arith)) ∙ last (dec_lt (suc i) 1000))
    where
      last : Dec (suc i < 1000) → extend i (rest s (suc i)) ≡ (i, i) ∷ rest s (suc i)
      last (yes q) =
          let o : s (suc i) ≡ false = (let z : suc i ≡ i + 0 + 1 = omega arith in ap s z ∙ g (omega arith)) in
          ap (extend i) (rest_out (suc i) q o) ∙ extend-far i (rest s (suc (suc i))) (rest-asc (suc i) (suc (suc i)) (omega arith) (omega arith)) ∙ ap (λ (l : List (ℕ × ℕ)). (i, i) ∷ l) (sym (rest_out (suc i) q o))
      last (no q) = rw (rest_end (suc i) (omega arith)) (extend-far i [] tt)
  rest-run (suc d) i h f g =
      let e : i + suc d ≡ suc i + d = omega arith in
      rw e (rest_in i (omega arith) (f i (omega arith) (omega arith))
      ∙ ap (extend i) (rest-run d (suc i) (omega arith) (λ u a b. f u (omega arith) (omega arith)) (λ b. let z : suc i + d + 1 ≡ i + suc d + 1 = omega arith in ap s z ∙ g (omega arith)))
      ∙ extend-next i (suc i + d) (rest s (suc i + d + 1)))

rest-cong : (s t : ℕ → Bool) (i : ℕ) → i ≤ 1000 → ((u : ℕ) → i ≤ u → s u ≡ t u) → rest s i ≡ rest t i
unfolding rest
rest-cong s t i h f = ap (runs i) (from-cong s t i (1000 - i) (λ u a b. f u a))

-- ---- ascending runs are the runs of their set
pub below-runs : (p v : ℕ) (rs : List (ℕ × ℕ)) → Asc p rs → v ≤ p → in_runs rs v ≡ false
unfolding any in_run
below-runs p v [] a h = refl
below-runs p v (r ∷ rs) a h = rw (lt-leb r.0 v (omega (arith, a.0))) (below-runs (r.1 + 1) v rs a.3 (omega (arith, a.0, a.1)))

past-run : (r : ℕ × ℕ) (rs : List (ℕ × ℕ)) (u : ℕ) → r.1 < u → in_runs (r ∷ rs) u ≡ in_runs rs u
unfolding any
past-run r rs u h = rw (not_so (in_run u r) (λ e. let x = run_in_lem u r.0 r.1 e in omega arith))

pub above-runs : (p v : ℕ) (rs : List (ℕ × ℕ)) → Asc p rs → 1000 ≤ v → in_runs rs v ≡ false
unfolding any
above-runs p v [] a h = refl
above-runs p v (r ∷ rs) a h = past-run r rs v (omega (arith, a.2)) ∙ above-runs (r.1 + 1) v rs a.3 h

pub runs-back : (rs : List (ℕ × ℕ)) (p i : ℕ) → Asc p rs → i ≤ p + 1 → i ≤ 1000 → rest (in_runs rs) i ≡ rs
unfolding any
runs-back [] p i a l h =
    rest-skip (in_runs []) (1000 - i) i (omega arith) (λ u x y. refl) ∙ rest_end (in_runs []) (i + (1000 - i)) (omega arith)
runs-back (r ∷ rs) p i a l h =
    let s = in_runs (r ∷ rs) in
    let skip : i + (r.0 - i) ≡ r.0 = omega (arith, a.0) in
    let long : r.0 + (r.1 - r.0) ≡ r.1 = omega (arith, a.1) in
    (rw skip at (rest-skip s (r.0 - i) i (omega (arith, a.0, a.1, a.2)) (λ u x y. below-runs (r.0 - 1) u (r ∷ rs) (omega (arith, a.0), a.1, a.2, a.3) (omega (arith, a.0)))))
    ∙ (rw long at (rest-run s (r.1 - r.0) r.0 (omega (arith, a.1, a.2))
    (λ u x y. or-first (in_run u r) (in_runs rs u) (in-run u r.0 r.1 x (omega (arith, a.1))))
    (λ x. past-run r rs (r.0 + (r.1 - r.0) + 1) (omega (arith, a.1)) ∙ below-runs (r.1 + 1) (r.0 + (r.1 - r.0) + 1) rs a.3 (omega (arith, a.1)))))
    ∙ ap (λ (l : List (ℕ × ℕ)). r ∷ l)
    (rest-cong s (in_runs rs) (r.1 + 1) (omega (arith, a.2)) (λ u x. past-run r rs u (omega arith))
    ∙ runs-back rs (r.1 + 1) (r.1 + 1) a.3 (omega arith) (omega (arith, a.2)))
