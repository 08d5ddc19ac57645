-- A set cut at version i has no longer a text: runs are dropped, and the last run left ends no later.
use Rattle.std.specs.Prelude.{ℕ, zero, suc, ◌+◌, ◌≤◌, ◌≡◌, refl, Bool, true, false, List, [], ◌∷◌, ◌++◌, map, eqb, length, take}
use Rattle.std.proofs.Common.{arith, ap, subst, eqb-true, ne_eqb, length-append}
use Rattle.std.proofs.lemmas.Bool.{eqb-false}
use Rattle.model.specs.Gather.{All}
use Rattle.xml.specs.Bytes.{Bytes, bytes, join_by}
use Rattle.xml.specs.Truth.{bool_by}
use Rattle.timestamp.specs.Times.{Times, extend, runs, decimal, write_run, write_times}
use Rattle.timestamp.specs.Lengths.{digits_of, digits_up}

-- ---- runs
run_up : (a b c : ℕ) → a ≤ b → b ≤ c → c ≤ 999 → length (write_run (a, b)) ≤ length (write_run (a, c))
unfolding write_run digits_of
run_up a b c l m u =
    bool_by (λ x. (eqb a b ≡ x) → length {A = ℕ} (elim x as (λ _. Bytes) [ true ↦ decimal a | false ↦ decimal a ++ bytes "-" ++ decimal b ]) ≤ length (write_run (a, c))) (eqb a b)
    (λ _ d. bool_by (λ x. length (decimal a) ≤ length {A = ℕ} (elim x as (λ _. Bytes) [ true ↦ decimal a | false ↦ decimal a ++ bytes "-" ++ decimal c ])) (eqb a c)
    (λ _. omega arith)
    (λ _. simp length-append (omega arith)))
    (λ _ d. let z : eqb a c ≡ false = ne_eqb a c (λ e. omega (arith, eqb-false a b d)) in
    rw (z, write_run) (simp length-append (omega (arith, digits_up b c m u))))
    refl

abbrev Good : List (ℕ × ℕ) → Type 0
Good rs = All (λ r. (r.0 ≤ r.1) × (r.1 ≤ 999)) rs

-- the first are the second cut: some are left, each begins where it did and ends no later
abbrev Cut : List (ℕ × ℕ) → List (ℕ × ℕ) → Type 0
Cut [] ss = Good ss
Cut (r ∷ rs) [] = ⊥
Cut (r ∷ rs) (s ∷ ss) = (r.0 ≡ s.0) × (r.0 ≤ r.1) × (r.1 ≤ s.1) × (s.1 ≤ 999) × Cut rs ss

good-extend : (i : ℕ) (rs : List (ℕ × ℕ)) → i ≤ 999 → Good rs → Good (extend i rs)
unfolding extend
good-extend i [] u h = ((omega arith, u), tt)
good-extend i (r ∷ rs) u h =
    bool_by (λ x. (eqb r.0 (suc i) ≡ x) → Good (elim x as (λ _. List (ℕ × ℕ)) [ true ↦ (i, r.1) ∷ rs | false ↦ (i, i) ∷ r ∷ rs ])) (eqb r.0 (suc i))
    (λ _ e. ((omega (arith, eqb-true r.0 (suc i) e, h.0), h.0.1), h.1))
    (λ _ e. ((omega arith, u), h)) refl

good-runs : (i : ℕ) (t : Times) → i + length t ≤ 1000 → Good (runs i t)
unfolding runs
good-runs i [] u = tt
good-runs i (false ∷ t) u = good-runs (suc i) t (omega arith)
good-runs i (true ∷ t) u = good-extend i (runs (suc i) t) (omega arith) (good-runs (suc i) t (omega arith))

cut-extend : (i : ℕ) (rs ss : List (ℕ × ℕ)) → i ≤ 999 → Cut rs ss → Cut (extend i rs) (extend i ss)
unfolding extend
cut-extend i [] [] u h = (refl, omega arith, omega arith, u, tt)
cut-extend i [] (s ∷ ss) u h =
    bool_by (λ x. (eqb s.0 (suc i) ≡ x) → Cut ((i, i) ∷ []) (elim x as (λ _. List (ℕ × ℕ)) [ true ↦ (i, s.1) ∷ ss | false ↦ (i, i) ∷ s ∷ ss ])) (eqb s.0 (suc i))
    (λ _ e. (refl, omega arith, omega (arith, eqb-true s.0 (suc i) e, h.0), h.0.1, h.1))
    (λ _ e. (refl, omega arith, omega arith, u, h)) refl
cut-extend i (r ∷ rs) [] u h = absurd h
cut-extend i (r ∷ rs) (s ∷ ss) u h =
    subst (λ (x : Bool). Cut (extend i (r ∷ rs)) (elim x as (λ _. List (ℕ × ℕ)) [ true ↦ (i, s.1) ∷ ss | false ↦ (i, i) ∷ s ∷ ss ])) (ap (λ a. eqb a (suc i)) h.0)
    (bool_by (λ x. (eqb r.0 (suc i) ≡ x)
    → Cut (elim x as (λ _. List (ℕ × ℕ)) [ true ↦ (i, r.1) ∷ rs | false ↦ (i, i) ∷ r ∷ rs ]) (elim x as (λ _. List (ℕ × ℕ)) [ true ↦ (i, s.1) ∷ ss | false ↦ (i, i) ∷ s ∷ ss ]))
    (eqb r.0 (suc i))
    (λ _ e. (refl, omega (arith, eqb-true r.0 (suc i) e, h.1), h.2, h.3, h.4))
    (λ _ e. (refl, omega arith, omega arith, u, h)) refl)

cut-runs : (j i : ℕ) (t : Times) → j + length t ≤ 1000 → Cut (runs j (take i t)) (runs j t)
unfolding runs
cut-runs j zero t u = good-runs j t u
cut-runs j (suc i) [] u = tt
cut-runs j (suc i) (false ∷ t) u = cut-runs (suc j) i t (omega arith)
cut-runs j (suc i) (true ∷ t) u = cut-extend j (runs (suc j) (take i t)) (runs (suc j) t) (omega arith) (cut-runs (suc j) i t (omega arith))

-- ---- texts
cut-run : (r s : ℕ × ℕ) → (r.0 ≡ s.0) → r.0 ≤ r.1 → r.1 ≤ s.1 → s.1 ≤ 999 → length (write_run r) ≤ length (write_run s)
cut-run r s e l m u = subst (λ a. length (write_run r) ≤ length (write_run (a, s.1))) e (run_up r.0 r.1 s.1 l m u)

cut-length : (rs ss : List (ℕ × ℕ)) → Cut rs ss → length (join_by (bytes ",") (map write_run rs)) ≤ length (join_by (bytes ",") (map write_run ss))
unfolding join_by
cut-length [] ss h = omega arith
cut-length (r ∷ rs) [] h = absurd h
cut-length (r ∷ []) (s ∷ []) h = cut-run r s h.0 h.1 h.2 h.3
cut-length (r ∷ []) (s ∷ z ∷ ss) h = simp length-append (omega (arith, cut-run r s h.0 h.1 h.2 h.3))
cut-length (r ∷ q ∷ rs) (s ∷ []) h = absurd h.4
cut-length (r ∷ q ∷ rs) (s ∷ z ∷ ss) h = simp length-append (omega (arith, cut-run r s h.0 h.1 h.2 h.3, cut-length (q ∷ rs) (z ∷ ss) h.4))

pub cut-shorter : (i : ℕ) (t : Times) → length t ≤ 999 → length (write_times (take i t)) ≤ length (write_times t)
unfolding write_times
cut-shorter i t u = cut-length (runs 1 (take i t)) (runs 1 t) (cut-runs 1 i t (omega arith))
