-- A text that is accepted is that of ascending runs, and is read as their set.
use Rattle.std.specs.Prelude.{ℕ, ◌+◌, ◌-◌, ◌*◌, ◌/◌, ◌%◌, ◌≤◌, ◌<◌, ◌≡◌, Bool, ◌||◌, eqb}
use Rattle.std.proofs.Math.Path.{refl, sym, ap, fun_ext}
use Rattle.std.proofs.Common.{◌∙◌, arith}
use mathlib.Core.List.{List, [], ◌∷◌, ◌++◌}
use Rattle.std.proofs.Math.Bool.{true, false, or_assoc, or-false}
use Rattle.std.proofs.Math.Decide.{dec_lt, ℕ_discrete}
use Rattle.std.proofs.Math.Dec.{ltb}
use borrow.Author.Tests.{lt-ltb, le-ltb, eq-eqb, ne_eqb, ltb-true, eqb-true}
use Rattle.xml.specs.Bytes.{is_digit, any}
use Rattle.xml.specs.Truth.{and_left, and_right}
use Rattle.timestamp.specs.TimesLaws.{in_run, digit_low, digit-high}
use Rattle.timestamp.specs.Set.{empty_set, joined, between}
use Rattle.timestamp.specs.Runs.{Asc, in_runs}
use Rattle.timestamp.specs.Digits.{pick, digits, run_text, tail_text, text}
use Rattle.timestamp.specs.Parse.{accepted, refused}
use Rattle.timestamp.specs.Reading.{St, st, bad, pick_s, more, opens, closes, start_at, digit_in, dash_in, close_in, step_in, steps, set_in, read_in, step-digit, step-dash, step-comma, step_other}

-- the text of the number so far, and of the run so far, with more after it
num : ℕ → List ℕ → List ℕ
num n l = pick (eqb n 0) l (digits n ++ l)

cur : ℕ → ℕ → List ℕ → List ℕ
cur lo n l = pick (eqb lo 0) (num n l) (digits lo ++ (45 ∷ num n l))

record Ok (p lo n : ℕ) : Type 0 where
  small : n < 1000
  past : (lo ≡ 0 → ⊥) → p < lo

record Found (s : ℕ → Bool) (p : ℕ) (S : ℕ → Bool) (l : List ℕ) : Type 0 where
  lo : ℕ
  hi : ℕ
  rest : List (ℕ × ℕ)
  asc : Asc p ((lo, hi) ∷ rest)
  is-text : l ≡ text ((lo, hi) ∷ rest)
  is_set : S ≡ joined s (in_runs ((lo, hi) ∷ rest))

unread : (f g : ℕ → Bool) → accepted f ≡ accepted g → f ≡ g
unread f g e = cc

never : (f : ℕ → Bool) → refused ≡ accepted f → ⊥
never f e = let z : ◌≡◌ {A = ℕ} 0 1 = cc in omega arith

-- what is refused stays so
pub steps-bad : (l : List ℕ) → steps bad l ≡ bad
unfolding steps step_in digit_in dash_in close_in
steps-bad [] = refl
steps-bad (b ∷ bs) = ap (λ (x : St). steps x bs) (go (is_digit b) (eqb b 45) (eqb b 44)) ∙ steps-bad bs
  where
    go : (x y z : Bool) → pick_s x bad (pick_s y bad (pick_s z bad bad)) ≡ bad
    go true y z = refl
    go false true z = refl
    go false false true = refl
    go false false false = refl

digits-snoc : (n b : ℕ) (l : List ℕ) → 0 < n → n < 100 → 48 ≤ b → b ≤ 57 → digits (n * 10 + (b - 48)) ++ l ≡ digits n ++ (b ∷ l)
unfolding digits
digits-snoc n b l z h hl hh = go (dec_lt n 10)
  where
    m : ℕ
    m = n * 10 + (b - 48)

    last : 48 + (n * 10 + (b - 48)) % 10 ≡ b
    last = omega arith

    mid : (n * 10 + (b - 48)) / 10 ≡ n
    mid = omega arith

    top : (n * 10 + (b - 48)) / 100 ≡ n / 10
    top = omega arith

    go : Dec (n < 10) → digits (n * 10 + (b - 48)) ++ l ≡ digits n ++ (b ∷ l)
    go (yes q) = rw (le-ltb (n * 10 + (b - 48)) 10 (omega arith), lt-ltb (n * 10 + (b - 48)) 100 (omega arith), lt-ltb n 10 q, last, mid)
    go (no q) =
        rw (le-ltb (n * 10 + (b - 48)) 10 (omega arith), le-ltb (n * 10 + (b - 48)) 100 (omega arith), le-ltb n 10 (omega arith), lt-ltb n 100 h, last, mid, top)

num-digit : (n b : ℕ) (l : List ℕ) → is_digit b ≡ true → more n b ≡ true → num (n * 10 + (b - 48)) l ≡ num n (b ∷ l)
unfolding num digits
num-digit n b l d e = go (dec_lt 0 n)
  where
    hl : 48 ≤ b
    hl = digit_low b d

    hh : b ≤ 57
    hh = digit-high b d

    hn : n < 100
    hn = ltb-true n 100 (and_left (ltb n 100) (ltb 0 n || ltb 48 b) e)

    go : Dec (0 < n) → num (n * 10 + (b - 48)) l ≡ num n (b ∷ l)
    go (yes q) = rw (ne_eqb (n * 10 + (b - 48)) 0 (omega arith), ne_eqb n 0 (omega arith)) (digits-snoc n b l q hn hl hh)
    go (no q) =
        let z : n ≡ 0 = omega arith in
        let pos : 48 < b = ltb-true 48 b (rw (le-ltb 0 n (omega arith)) at (and_right (ltb n 100) (ltb 0 n || ltb 48 b) e)) in
        let back : 48 + (n * 10 + (b - 48)) ≡ b = omega (arith, hl) in
        rw (ne_eqb (n * 10 + (b - 48)) 0 (omega arith), eq-eqb n 0 z, lt-ltb (n * 10 + (b - 48)) 10 (omega (arith, hh)), back)

-- a run that ends with n, and what comes after it
module _ (p lo n : ℕ) (ok : Ok p lo n) (e : closes p lo n ≡ true) where
  closed-asc : (rs : List (ℕ × ℕ)) → Asc (n + 1) rs → Asc p ((start_at lo n, n) ∷ rs)
  closed-asc rs a = go (ℕ_discrete lo 0)
    where
      go : Dec (lo ≡ 0) → (p < start_at lo n) × (start_at lo n ≤ n) × (n < 1000) × Asc (n + 1) rs
      go (yes q) =
          let f : p < n = ltb-true p n (rw (eq-eqb lo 0 q) at e) in
          rw (eq-eqb lo 0 q) (f, omega arith, ok.small, a)
      go (no q) =
          let f : lo < n = ltb-true lo n (rw (ne_eqb lo 0 q) at e) in
          rw (ne_eqb lo 0 q) (ok.past q, omega arith, ok.small, a)

  closed-text : (l : List ℕ) → cur lo n l ≡ run_text (start_at lo n) n l
  unfolding cur num run_text
  closed-text l = go (ℕ_discrete lo 0)
    where
      go : Dec (lo ≡ 0) → cur lo n l ≡ run_text (start_at lo n) n l
      go (yes q) =
          let f : p < n = ltb-true p n (rw (eq-eqb lo 0 q) at e) in
          rw (eq-eqb lo 0 q, ne_eqb n 0 (omega arith), le-ltb n n (omega arith))
      go (no q) =
          let f : lo < n = ltb-true lo n (rw (ne_eqb lo 0 q) at e) in
          rw (ne_eqb lo 0 q, ne_eqb n 0 (omega arith), lt-ltb lo n f)

refuse : (S : ℕ → Bool) (l : List ℕ) {X : Type 0} → set_in (close_in (steps bad l)) ≡ accepted S → X
unfolding close_in
refuse S l e = absurd (never S (sym (ap (λ (x : St). set_in (close_in x)) (steps-bad l)) ∙ e))

module _ (S : ℕ → Bool) (bs : List ℕ)
    (ih : (s : ℕ → Bool) (p lo n : ℕ) → Ok p lo n → set_in (close_in (steps (st s p lo n) bs)) ≡ accepted S → Found s p S (cur lo n bs))
    (s : ℕ → Bool) (p lo n : ℕ) (ok : Ok p lo n) where
  Reads : St → Type 0
  Reads x = set_in (close_in (steps x bs)) ≡ accepted S

  on-digit : (b : ℕ) → is_digit b ≡ true → (m : Bool) → more n b ≡ m → Reads (pick_s m (st s p lo (n * 10 + (b - 48))) bad) → Found s p S (cur lo n (b ∷ bs))
  unfolding Reads cur
  on-digit b d true e r =
      let hl = digit_low b d in
      let hh = digit-high b d in
      let hn : n < 100 = ltb-true n 100 (and_left (ltb n 100) (ltb 0 n || ltb 48 b) e) in
      let f = ih s p lo (n * 10 + (b - 48)) (record { small = omega arith; past = ok.past }) r in
      record {
        lo = f.lo;
        hi = f.hi;
        rest = f.rest;
        asc = f.asc;
        is-text = ap (λ (x : List ℕ). pick (eqb lo 0) x (digits lo ++ (45 ∷ x))) (sym (num-digit n b bs d e)) ∙ f.is-text;
        is_set = f.is_set;
      }
  on-digit b d false e r = refuse S bs r

  on-dash : (m : Bool) → opens p lo n ≡ m → Reads (pick_s m (st s p n 0) bad) → Found s p S (cur lo n (45 ∷ bs))
  unfolding Reads cur num
  on-dash true e r =
      let z : lo ≡ 0 = eqb-true lo 0 (and_left (eqb lo 0) (ltb p n) e) in
      let h : p < n = ltb-true p n (and_right (eqb lo 0) (ltb p n) e) in
      let f = ih s p n 0 (record { small = omega arith; past = λ q. h }) r in
      let t : cur n 0 bs ≡ digits n ++ (45 ∷ bs) = rw (ne_eqb n 0 (omega arith)) in
      let u : cur lo n (45 ∷ bs) ≡ digits n ++ (45 ∷ bs) = rw (eq-eqb lo 0 z, ne_eqb n 0 (omega arith)) in
      record {
        lo = f.lo;
        hi = f.hi;
        rest = f.rest;
        asc = f.asc;
        is-text = u ∙ sym t ∙ f.is-text;
        is_set = f.is_set;
      }
  on-dash false e r = refuse S bs r

  on-comma : (m : Bool) → closes p lo n ≡ m → Reads (pick_s m (st (joined s (between (start_at lo n) n)) (n + 1) 0 0) bad) → Found s p S (cur lo n (44 ∷ bs))
  unfolding Reads cur num text tail_text any in_run
  on-comma true e r =
      let f = ih (joined s (between (start_at lo n) n)) (n + 1) 0 0 (record { small = omega arith; past = λ q. absurd (q refl) }) r in
      record {
        lo = start_at lo n;
        hi = n;
        rest = (f.lo, f.hi) ∷ f.rest;
        asc = closed-asc p lo n ok e ((f.lo, f.hi) ∷ f.rest) f.asc;
        is-text = closed-text p lo n ok e (44 ∷ bs) ∙ ap (λ (x : List ℕ). run_text (start_at lo n) n (44 ∷ x)) f.is-text;
        is_set = f.is_set ∙ fun_ext (λ v. or_assoc (s v) (between (start_at lo n) n v) (in_runs ((f.lo, f.hi) ∷ f.rest) v));
      }
  on-comma false e r = refuse S bs r

  one-step : (b : ℕ) → Reads (step_in (st s p lo n) b) → Found s p S (cur lo n (b ∷ bs))
  unfolding Reads digit_in dash_in close_in
  one-step b r = go (is_digit b) refl (ℕ_discrete b 45) (ℕ_discrete b 44)
    where
      go : (d : Bool) → is_digit b ≡ d → Dec (b ≡ 45) → Dec (b ≡ 44) → Found s p S (cur lo n (b ∷ bs))
      go true d x y = on-digit b d (more n b) refl (rw (step-digit (st s p lo n) b d) at r)
      go false d (yes x) y = rw x (on-dash (opens p lo n) refl (rw (step-dash (st s p lo n) b x) at r))
      go false d (no x) (yes y) = rw y (on-comma (closes p lo n) refl (rw (step-comma (st s p lo n) b y) at r))
      go false d (no x) (no y) = refuse S bs (rw (step_other (st s p lo n) b d x y) at r)

at-end : (S s : ℕ → Bool) (p lo n : ℕ) → Ok p lo n → (m : Bool) → closes p lo n ≡ m
    → set_in (pick_s m (st (joined s (between (start_at lo n) n)) (n + 1) 0 0) bad) ≡ accepted S → Found s p S (cur lo n [])
unfolding text tail_text any in_run
at-end S s p lo n ok true e r =
    record {
      lo = start_at lo n;
      hi = n;
      rest = [];
      asc = closed-asc p lo n ok e [] tt;
      is-text = closed-text p lo n ok e [];
      is_set = sym (unread _ S r) ∙ fun_ext (λ v. ap (λ (x : Bool). s v || x) (sym (or-false (between (start_at lo n) n v))));
    }
at-end S s p lo n ok false e r = absurd (never S r)

sound : (l : List ℕ) (S s : ℕ → Bool) (p lo n : ℕ) → Ok p lo n → set_in (close_in (steps (st s p lo n) l)) ≡ accepted S → Found s p S (cur lo n l)
unfolding steps close_in Reads
sound [] S s p lo n ok r = at-end S s p lo n ok (closes p lo n) refl r
sound (b ∷ bs) S s p lo n ok r = one-step S bs (λ s' p' lo' n' ok' r'. sound bs S s' p' lo' n' ok' r') s p lo n ok b r

-- a text that is accepted is that of ascending runs, and is read as their set
pub accepted-runs : (l : List ℕ) (S : ℕ → Bool) → read_in l ≡ accepted S → (r : ℕ × ℕ) × (rs : List (ℕ × ℕ)) × Asc 0 (r ∷ rs) × (l ≡ text (r ∷ rs)) × (S ≡ in_runs (r ∷ rs))
unfolding read_in cur num
accepted-runs l S r =
    let f = sound l S empty_set 0 0 0 (record { small = omega arith; past = λ q. absurd (q refl) }) r in
    ((f.lo, f.hi), f.rest, f.asc, f.is-text, f.is_set)
