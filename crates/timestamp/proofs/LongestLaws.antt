-- No set of the numbers 1 to n has a longer text than `longest n`. `reach n` is the length of that text with a comma at its end. A run
-- a to b that follows a text over 1 to a - 2 reaches no further than `reach b`, so by induction on the runs no text does.
use Prim.Native.Nat.{ℕ, zero, suc, ◌+◌, ◌-◌, ◌≤◌, ◌<◌}
use native.Mathlib.Omega.{arith}
use Rattle.std.proofs.Math.Decide.{ℕ_discrete}
use Rattle.std.specs.Prelude.{◌≡◌, Bool, true, false, List, [], ◌∷◌, ◌++◌, map, eqb, ltb, length}
use Rattle.std.proofs.Math.Path.{refl}
use Rattle.std.proofs.Common.{sym, ap, ap₂, ◌∙◌, subst, append_assoc, append-nil, length-append, eq-eqb, ne_eqb, lt-ltb}
use Rattle.xml.specs.Bytes.{Bytes, bytes, join_by}
use Rattle.xml.specs.Over.{Wrote}
use Rattle.xml.specs.OverLaws.{wrote_then, wrote_none}
use Rattle.xml.specs.Truth.{bool_by}
use Rattle.timestamp.specs.Times.{Times, always, extend, runs, write_run, write_times, times_compute}
use Rattle.timestamp.specs.Runs.{AscTo, asc-runs}
use Rattle.timestamp.specs.Listed.{text_of, listed, listed-length}
use Rattle.timestamp.specs.Write.{part, following, joined-following}
use Rattle.timestamp.specs.Lengths.{climbs, digits_of, digits_step, digits_up, one-length, two-length}
use Rattle.timestamp.specs.Longest.{LongestText, longest, longest_compute}

-- ---- lengths
-- of runs, each with a comma after it
unfoldable total : List (ℕ × ℕ) → ℕ
total [] = 0
total (r ∷ rs) = length (write_run r) + 1 + total rs

total-more : (rs : List (ℕ × ℕ)) (r : ℕ × ℕ) → total (rs ++ r ∷ []) ≡ total rs + (length (write_run r) + 1)
unfolding total
total-more [] r = omega arith
total-more (q ∷ rs) r = omega (arith, total-more rs r)

text-total : (rs : List (ℕ × ℕ)) → length (join_by (bytes ",") (map write_run rs)) ≡ total rs - 1
unfolding total join_by bytes
text-total [] = refl
text-total (r ∷ []) = omega arith
text-total (r ∷ q ∷ rs) =
    let w : Bytes = join_by (44 ∷ []) (map write_run (q ∷ rs)) in
    omega (arith, length-append (write_run r ++ 44 ∷ []) w, length-append (write_run r) (44 ∷ []), text-total (q ∷ rs))

-- ---- the bound
unfoldable reach : ℕ → ℕ
reach zero = 0
reach (suc zero) = 2
reach (suc (suc zero)) = 4
reach (suc (suc (suc n))) = reach n + (digits_of (suc (suc n)) + digits_of (suc (suc (suc n))) + 2)

reach_step : (m : ℕ) → m < 999 → reach m ≤ reach (suc m)
unfolding reach digits_of times_compute
reach_step zero h = omega arith
reach_step (suc zero) h = omega arith
reach_step (suc (suc zero)) h = omega arith
reach_step (suc (suc (suc n))) h =
    omega (arith, reach_step n (omega arith), digits_step (suc (suc n)) (omega arith), digits_step (suc (suc (suc n))) (omega arith))

reach-up : (a b : ℕ) → a ≤ b → b ≤ 999 → reach a ≤ reach b
reach-up = climbs reach 999 reach_step

-- a run of one after a gap
reach-one : (n : ℕ) → suc (suc n) ≤ 999 → reach n + digits_of (suc (suc n)) + 1 ≤ reach (suc (suc n))
unfolding reach digits_of times_compute
reach-one zero h = omega arith
reach-one (suc zero) h = omega arith
reach-one (suc (suc zero)) h = omega arith
reach-one (suc (suc (suc n))) h = omega (arith, reach-one n (omega arith), digits_step (suc (suc (suc n))) (omega arith))

-- any run after a gap
reach-run : (a b : ℕ) → 1 ≤ a → a ≤ b → b ≤ 999 → reach (a - 2) + (length (write_run (a, b)) + 1) ≤ reach b
reach-run a b l m u = go (ℕ_discrete a b)
  where
    single : (b : ℕ) → 1 ≤ b → b ≤ 999 → reach (b - 2) + (digits_of b + 1) ≤ reach b
    single zero l u = absurd (omega arith)
    single (suc zero) l u = unfold reach digits_of times_compute in omega arith
    single (suc (suc n)) l u = let z : suc (suc n) - 2 ≡ n = omega arith in rw z (omega (arith, reach-one n u))

    longer : (b : ℕ) → a < b → b ≤ 999 → reach (a - 2) + (digits_of a + 1 + digits_of b + 1) ≤ reach b
    longer zero h u = absurd (omega arith)
    longer (suc zero) h u = absurd (omega arith)
    longer (suc (suc zero)) h u = let z : a ≡ 1 = omega arith in rw z (unfold reach digits_of times_compute in omega arith)
    longer (suc (suc (suc n))) h u = unfold reach in
        omega (arith, reach-up (a - 2) n (omega arith) (omega arith), digits_up a (suc (suc n)) (omega arith) (omega arith))

    go : Dec (a ≡ b) → reach (a - 2) + (length (write_run (a, b)) + 1) ≤ reach b
    go (yes e) = rw (← e) (rw (one-length a) (single a l (omega arith)))
    go (no e) = rw (two-length a b e) (longer b (omega (arith, e)) u)

-- THE bound: runs past p, up to n
total-below : (n p : ℕ) (rs : List (ℕ × ℕ)) → n ≤ 999 → p ≤ suc n → AscTo (suc n) p rs → reach (p - 1) + total rs ≤ reach n
unfolding total
total-below n p [] u l h = omega (arith, reach-up (p - 1) n (omega arith) u)
total-below n p (r ∷ rs) u l h =
    let z : r.1 + 1 - 1 ≡ r.1 = omega arith in
    let more : reach r.1 + total rs ≤ reach n = rw z at (total-below n (r.1 + 1) rs u (omega (arith, h.2)) h.3) in
    omega (arith, reach-up (p - 1) (r.0 - 2) (omega (arith, h.0)) (omega (arith, h.1, h.2)), reach-run r.0 r.1 (omega (arith, h.0)) h.1 (omega (arith, h.2)), more)

-- ---- the set that is given
pub longest-length : (n : ℕ) → length (longest n) ≡ n
unfolding longest
longest-length zero = refl
longest-length (suc zero) = refl
longest-length (suc (suc zero)) = refl
longest-length (suc (suc (suc n))) = simp length-append (omega (arith, longest-length n))

extend-more : (i : ℕ) (rs : List (ℕ × ℕ)) (x : ℕ × ℕ) → (x.0 ≡ suc i → ⊥) → extend i (rs ++ x ∷ []) ≡ extend i rs ++ x ∷ []
unfolding extend
extend-more i [] x h = rw (ne_eqb x.0 (suc i) h, extend)
extend-more i (r ∷ rs) x h =
    bool_by (λ b. elim b as (λ _. List (ℕ × ℕ)) [ true ↦ (i, r.1) ∷ rs ++ x ∷ [] | false ↦ (i, i) ∷ r ∷ rs ++ x ∷ [] ]
    ≡ (elim b as (λ _. List (ℕ × ℕ)) [ true ↦ (i, r.1) ∷ rs | false ↦ (i, i) ∷ r ∷ rs ]) ++ x ∷ []) (eqb r.0 (suc i))
    (λ _. refl) (λ _. refl)

runs-pair : (i : ℕ) (t : Times) → runs i (t ++ false ∷ true ∷ true ∷ []) ≡ runs i t ++ (i + length t + 1, i + length t + 2) ∷ []
unfolding runs extend
runs-pair i [] =
    let x : suc i ≡ i + 0 + 1 = omega arith in
    let y : suc (suc i) ≡ i + 0 + 2 = omega arith in
    rw (eq-eqb (suc (suc i)) (suc (suc i)) refl, extend) (rw (← x, ← y))
runs-pair i (false ∷ t) = let z : i + suc (length t) ≡ suc i + length t = omega arith in rw z (runs-pair (suc i) t)
runs-pair i (true ∷ t) =
    let z : i + suc (length t) ≡ suc i + length t = omega arith in
    rw z (ap (extend i) (runs-pair (suc i) t) ∙ extend-more i (runs (suc i) t) (suc i + length t + 1, suc i + length t + 2) (λ e. omega arith))

-- three numbers more are one run more
runs-more : (n : ℕ) → runs 1 (longest (suc (suc (suc n)))) ≡ runs 1 (longest n) ++ (suc (suc n), suc (suc (suc n))) ∷ []
unfolding longest
runs-more n =
    let a : 1 + length (longest n) + 1 ≡ suc (suc n) = omega (arith, longest-length n) in
    let b : 1 + length (longest n) + 2 ≡ suc (suc (suc n)) = omega (arith, longest-length n) in
    rw (a, b) at (runs-pair 1 (longest n))

longest-total : (n : ℕ) → total (runs 1 (longest n)) ≡ reach n
unfolding reach total
longest-total zero = unfold longest_compute in refl
longest-total (suc zero) = unfold longest_compute digits_of in refl
longest-total (suc (suc zero)) = unfold longest_compute digits_of in refl
longest-total (suc (suc (suc n))) =
    ap total (runs-more n) ∙ total-more (runs 1 (longest n)) (suc (suc n), suc (suc (suc n)))
    ∙ omega (arith, longest-total n, two-length (suc (suc n)) (suc (suc (suc n))) (λ e. omega arith))

-- no set of the numbers 1 to n has a longer text
longest-most : (n : ℕ) (t : Times) → n ≤ 999 → length t ≡ n → length (write_times t) ≤ length (write_times (longest n))
unfolding write_times
longest-most n t h e =
    omega (arith, text-total (runs 1 t), text-total (runs 1 (longest n)), longest-total n, total-below n 0 (runs 1 t) h (omega arith) (asc-runs (suc n) 0 1 t (omega arith) (omega arith)), none)
  where
    none : reach (0 - 1) ≡ 0
    none = unfold reach in refl

-- the promise
pub longest-text : (n : ℕ) → n ≤ 999 → LongestText n (write_times (longest n))
longest-text n h = record { set = longest n; over = longest-length n; text = refl; most = λ t e. longest-most n t h e }

-- of 999 numbers it has 2,591 bytes
pub longest-999 : length (write_times (longest 999)) ≡ 2591
unfolding longest_compute
longest-999 = refl

-- so no text of a set has more
pub times-short : (t : Times) → length t ≤ 999 → length (write_times t) ≤ 2591
unfolding write_times
times-short t h =
    let n = length t in
    omega (arith, longest-most n t h refl, text-total (runs 1 (longest n)), longest-total n, reach-up n 999 h (omega arith), text-total (runs 1 (longest 999)), longest-total 999, longest-999)

pub text-short : (s : ℕ → Bool) → length (text_of s) ≤ 2591
unfolding text_of
text-short s = times-short (listed 999 s) (omega (arith, listed-length 999 s))

-- ---- the text from below, as it is written
longest-first : (k : ℕ) → k < 3 → always k ≡ longest k
unfolding always longest
longest-first zero h = refl
longest-first (suc zero) h = refl
longest-first (suc (suc zero)) h = refl
longest-first (suc (suc (suc k))) h = absurd (omega arith)

following-more : (rs : List (ℕ × ℕ)) (x : ℕ × ℕ) → following true (rs ++ x ∷ []) ≡ following true rs ++ part true x
unfolding following
following-more [] x = append-nil (part true x)
following-more (r ∷ rs) x = ap (λ (w : Bytes). part true r ++ w) (following-more rs x) ∙ sym (append_assoc (part true r) (following true rs) (part true x))

some : List (ℕ × ℕ) → Bool
some [] = false
some (r ∷ rs) = true

text-more : (rs : List (ℕ × ℕ)) (x : ℕ × ℕ) → following false (rs ++ x ∷ []) ≡ following false rs ++ part (some rs) x
unfolding following some
text-more [] x = append-nil (part false x)
text-more (r ∷ rs) x = ap (λ (w : Bytes). write_run r ++ w) (following-more rs x) ∙ sym (append_assoc (write_run r) (following true rs) (part true x))

some_runs : (rs : List (ℕ × ℕ)) → 1 ≤ total rs → some rs ≡ true
unfolding total some
some_runs [] h = absurd (omega arith)
some_runs (r ∷ rs) h = refl

-- what is written so far is empty just where k is 0
some-longest : (k : ℕ) → some (runs 1 (longest k)) ≡ ltb 0 k
some-longest zero = unfold longest_compute some in refl
some-longest (suc k) = some_runs (runs 1 (longest (suc k))) (omega (arith, longest-total (suc k), reach-some k)) ∙ sym (lt-ltb 0 (suc k) (omega arith))
  where
    reach-some : (k : ℕ) → 1 ≤ reach (suc k)
    reach-some zero = unfold reach in omega arith
    reach-some (suc zero) = unfold reach in omega arith
    reach-some (suc (suc n)) = unfold reach in omega arith

longest-more : (k : ℕ) → write_times (longest (k + 3)) ≡ write_times (longest k) ++ part (ltb 0 k) (k + 2, k + 3)
unfolding write_times bytes
longest-more k =
    let z : k + 3 ≡ suc (suc (suc k)) = omega arith in
    let y : k + 2 ≡ suc (suc k) = omega arith in
    rw (z, y) (joined-following (runs 1 (longest (suc (suc (suc k))))) ∙ ap (following false) (runs-more k) ∙ text-more (runs 1 (longest k)) (suc (suc k), suc (suc (suc k)))
    ∙ ap₂ (λ (w : Bytes) (b : Bool). w ++ part b (suc (suc k), suc (suc (suc k)))) (sym (joined-following (runs 1 (longest k)))) (some-longest k))

-- after the text over 1 to j, what of the one over 1 to k follows is written
pub record LongestWritten (j : ℕ) (old : List ℕ) (at : ℕ) (new : List ℕ) (to k : ℕ) : Type 0 where
  pub w : Bytes
  pub wrote : Wrote old at w to new
  pub so_far : write_times (longest j) ++ w ≡ write_times (longest k)

-- the text over 1 to k is at first that of all of them
pub written-first : {k at r : ℕ} {out left : List ℕ} → k < 3 → Wrote out at (write_times (always k)) r left → Wrote out at (write_times (longest k)) r left
written-first {k} {at} {r} {out} {left} h x = subst (λ (t : Times). Wrote out at (write_times t) r left) (longest-first k h) x

pub written_none : {j at : ℕ} {out : List ℕ} → LongestWritten j out at out at j
written_none {j} = record { w = []; wrote = wrote_none; so_far = append-nil (write_times (longest j)) }

pub written-pair : {j at to r k : ℕ} {old mid new : List ℕ} → LongestWritten j old at mid to k → Wrote mid to (part (ltb 0 k) (k + 2, k + 3)) r new → LongestWritten j old at new r (k + 3)
written-pair {j} {k = k} x y =
    let p : Bytes = part (ltb 0 k) (k + 2, k + 3) in
    record {
      w = x.w ++ p;
      wrote = wrote_then x.wrote y;
      so_far = sym (append_assoc (write_times (longest j)) x.w p) ∙ ap (λ (w : Bytes). w ++ p) x.so_far ∙ sym (longest-more k);
    }

pub written-whole : {j at mid to k : ℕ} {old new out : List ℕ} → Wrote out at (write_times (longest j)) mid old → LongestWritten j old mid new to k → Wrote out at (write_times (longest k)) to new
written-whole {at = at} {to = to} {new = new} {out = out} x y = subst (λ (w : Bytes). Wrote out at w to new) y.so_far (wrote_then x y.wrote)
