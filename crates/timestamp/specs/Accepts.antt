-- The text of ascending runs is accepted, and read as their set.
use Rattle.std.specs.Prelude.{ℕ, ◌+◌, ◌-◌, ◌*◌, ◌≤◌, ◌<◌, ◌≡◌, List, [], ◌∷◌, ◌++◌, Bool, true, ◌&&◌, ◌||◌, ltb}
use Rattle.std.proofs.Math.Path.{refl, ap, fun_ext}
use Rattle.std.proofs.Common.{sym, ap₂, ◌∙◌}
use Rattle.std.proofs.Math.Bool.{or_assoc, or-false}
use native.Mathlib.Omega.{arith}
use Rattle.std.proofs.Math.Decide.{dec_lt}
use borrow.Author.Tests.{lt-ltb, le-ltb, le-leb, ne_eqb}
use Rattle.xml.specs.Bytes.{is_digit, within, any}
use Rattle.timestamp.specs.TimesLaws.{in_run}
use Rattle.timestamp.specs.Set.{empty_set, joined, between}
use Rattle.timestamp.specs.Runs.{Asc, in_runs}
use Rattle.timestamp.specs.Digits.{digit, digits, by_digits, run_text, tail_text, text}
use Rattle.timestamp.specs.Parse.{accepted}
use Rattle.timestamp.specs.Reading.{St, st, pick_n, more, digit_in, dash_in, close_in, steps, set_in, read_in, step-digit, step-dash, step-comma}

-- where a run begins in the reader's own terms: its start, or 0 for a run of one number
abbrev pub start_of : ℕ → ℕ → ℕ
start_of lo hi = pick_n (ltb lo hi) lo 0

pub digit-is : (d : ℕ) → d < 10 → is_digit (digit d) ≡ true
unfolding is_digit within
digit-is d h = ap₂ ◌&&◌ (le-leb 48 (48 + d) (omega arith)) (le-leb (48 + d) 57 (omega arith))

pub more-digit : (n d : ℕ) → n < 100 → d < 10 → 0 < n + d → more n (digit d) ≡ true
more-digit n d hn hd h = go (dec_lt 0 n)
  where
    go : Dec (0 < n) → more n (digit d) ≡ true
    go (yes q) = rw (lt-ltb n 100 hn, lt-ltb 0 n q)
    go (no q) = rw (lt-ltb n 100 hn, le-ltb 0 n (omega arith)) (lt-ltb 48 (48 + d) (omega arith))

module _ (s : ℕ → Bool) (p lo : ℕ) where
  digit-step : (n d : ℕ) (l : List ℕ) → n < 100 → d < 10 → 0 < n + d → steps (st s p lo n) (digit d ∷ l) ≡ steps (st s p lo (n * 10 + d)) l
  unfolding steps digit_in
  digit-step n d l hn hd h =
      ap (λ (x : St). steps x l)
      (step-digit (st s p lo n) (digit d) (digit-is d hd)
      ∙ rw (more-digit n d hn hd h) (ap (st s p lo) (drop-48 d)))
    where
      drop-48 : (x : ℕ) → n * 10 + (48 + x - 48) ≡ n * 10 + x
      drop-48 x = omega arith

  pub digits-steps : (m : ℕ) (l : List ℕ) → 0 < m → m < 1000 → steps (st s p lo 0) (digits m ++ l) ≡ steps (st s p lo m) l
  digits-steps = by_digits (λ n. steps (st s p lo n)) digit-step

module _ (s : ℕ → Bool) (p lo hi : ℕ) (hp : p < lo) (hl : lo ≤ hi) (hh : hi < 1000) where
  pub run-steps : (l : List ℕ) → steps (st s p 0 0) (run_text lo hi l) ≡ steps (st s p (start_of lo hi) hi) l
  unfolding run_text steps dash_in
  run-steps l = go (dec_lt lo hi)
    where
      go : Dec (lo < hi) → steps (st s p 0 0) (run_text lo hi l) ≡ steps (st s p (start_of lo hi) hi) l
      go (yes q) =
          rw (lt-ltb lo hi q)
          (digits-steps s p 0 lo (45 ∷ (digits hi ++ l)) (omega arith) (omega arith)
          ∙ ap (λ (x : St). steps x (digits hi ++ l)) (step-dash (st s p 0 lo) 45 refl ∙ rw (lt-ltb p lo hp))
          ∙ digits-steps s p lo hi l (omega arith) hh)
      go (no q) =
          let e : lo ≡ hi = omega arith in
          rw (le-ltb lo hi (omega arith)) (digits-steps s p 0 lo l (omega arith) (omega arith) ∙ ap (λ (x : ℕ). steps (st s p 0 x) l) e)

  pub run-close : close_in (st s p (start_of lo hi) hi) ≡ st (joined s (between lo hi)) (hi + 1) 0 0
  unfolding close_in
  run-close = go (dec_lt lo hi)
    where
      go : Dec (lo < hi) → close_in (st s p (start_of lo hi) hi) ≡ st (joined s (between lo hi)) (hi + 1) 0 0
      go (yes q) = rw (lt-ltb lo hi q, ne_eqb lo 0 (omega arith), lt-ltb lo hi q)
      go (no q) =
          let e : hi ≡ lo = omega arith in
          let f : p < hi = omega arith in
          rw (le-ltb lo hi (omega arith), lt-ltb p hi f) (ap (λ (x : ℕ). st (joined s (between x hi)) (hi + 1) 0 0) e)

accepts : (rs : List (ℕ × ℕ)) (s : ℕ → Bool) (p lo hi : ℕ) → Asc p ((lo, hi) ∷ rs)
    → set_in (close_in (steps (st s p 0 0) (text ((lo, hi) ∷ rs)))) ≡ accepted (joined s (in_runs ((lo, hi) ∷ rs)))
unfolding text any in_run tail_text steps
accepts [] s p lo hi a =
    ap (λ (x : St). set_in (close_in x)) (run-steps s p lo hi a.0 a.1 a.2 [])
    ∙ ap set_in (run-close s p lo hi a.0 a.1 a.2)
    ∙ ap accepted (fun_ext (λ v. ap (λ (x : Bool). s v || x) (sym (or-false (between lo hi v)))))
accepts (q ∷ rs) s p lo hi a =
    ap (λ (x : St). set_in (close_in x))
    (run-steps s p lo hi a.0 a.1 a.2 (tail_text (q ∷ rs))
    ∙ ap (λ (x : St). steps x (text (q ∷ rs))) (step-comma (st s p (start_of lo hi) hi) 44 refl ∙ run-close s p lo hi a.0 a.1 a.2))
    ∙ accepts rs (joined s (between lo hi)) (hi + 1) q.0 q.1 a.3
    ∙ ap accepted (fun_ext (λ v. or_assoc (s v) (between lo hi v) (in_runs (q ∷ rs) v)))

pub runs-accepted : (r : ℕ × ℕ) (rs : List (ℕ × ℕ)) → Asc 0 (r ∷ rs) → read_in (text (r ∷ rs)) ≡ accepted (in_runs (r ∷ rs))
unfolding read_in
runs-accepted r rs a = accepts rs empty_set 0 r.0 r.1 a
