-- A run of a text read at once, past a bound: what the byte reader makes of it, and of what stands there where it is none.
use Prim.Native.Nat.{ℕ, ◌+◌, ◌≤◌, ◌<◌}
use Rattle.std.specs.Prelude.{◌≡◌, ◌∷◌, ◌++◌, Bool, drop, Option, MatchOption}
use Rattle.std.proofs.Math.Path.{refl, sym, ap, ap₂}
use Rattle.std.proofs.Common.{◌∙◌, arith}
use Rattle.std.proofs.Math.Bool.{true, false}
use Rattle.std.proofs.Math.Decide.{dec_lt, ℕ_discrete}
use Rattle.std.proofs.Math.ListN.{length, get_or}
use borrow.Author.Tests.{lt-ltb, le-ltb, eq-eqb, ne_eqb}
use Rattle.xml.specs.Bytes.{Bytes, is_digit}
use Rattle.timestamp.specs.Belongs.{comma-less, inside-default}
use Rattle.timestamp.specs.Set.{empty_set, joined, between}
use Rattle.timestamp.specs.Digits.{digits, run_text}
use Rattle.timestamp.specs.Parse.{refused, accepted, parsed}
use Rattle.timestamp.specs.Reading.{St, st, bad, opens, closes, digit_in, dash_in, close_in, step_in, steps, set_in, read_in, steps_on, steps-end, step-digit, step-dash, step-comma, step_other}
use Rattle.timestamp.specs.Accepts.{start_of, run-steps, run-close}
use Rattle.timestamp.specs.Sound.{steps-bad}
use Rattle.timestamp.specs.Numbers.{NumberAt, stays, reads, Ended, number-steps, drop-one}
use Rattle.timestamp.specs.Parses.{read-parsed}
use Rattle.timestamp.specs.declared.text.Run.{Run}

-- at the place `at` the run lo to hi begins past p, and ends before the place `to`; hi is 0 where what stands there is refused
pub data RunAt (l : Bytes) (at p lo hi to : ℕ) : Type 0 where
  nothing : hi ≡ 0 → ((s : ℕ → Bool) → close_in (steps (st s p 0 0) (drop at l)) ≡ bad) → RunAt l at p lo hi to
  run : p < lo → lo ≤ hi → hi < 1000 → at ≤ to → to ≤ length l → drop at l ≡ run_text lo hi (drop to l) → Ended l hi to → (lo ≡ hi → get_or l to 44 ≡ 45 → ⊥) → RunAt l at p lo hi to

-- what is read at the place `at`: a run past p, or none
abbrev pub RunRead : Bytes → ℕ → ℕ → Option Run → Type 0
RunRead l at p r = MatchOption r (RunAt l at p 0 0 at) (λ x. (0 < x.hi) × RunAt l at p x.lo x.hi x.to)

-- ---- what is refused
module _ (l : Bytes) (s : ℕ → Bool) (p lo n to : ℕ) (x : Ended l n to) where
  -- no byte but a comma, or a dash that opens a run, goes on
  refuses : to < length l → (get_or l to 0 ≡ 44 → ⊥) → (get_or l to 0 ≡ 45 → opens p lo n ≡ false) → steps (st s p lo n) (drop to l) ≡ bad
  unfolding digit_in dash_in
  refuses h c d = steps_on (st s p lo n) l to h ∙ ap (λ (y : St). steps y (drop (to + 1) l)) (go (is_digit (get_or l to 0)) refl (ℕ_discrete (get_or l to 0) 45)) ∙ steps-bad (drop (to + 1) l)
    where
      go : (b : Bool) → is_digit (get_or l to 0) ≡ b → Dec (get_or l to 0 ≡ 45) → step_in (st s p lo n) (get_or l to 0) ≡ bad
      go true e q = step-digit (st s p lo n) (get_or l to 0) e ∙ rw (x e)
      go false e (yes q) = step-dash (st s p lo n) (get_or l to 0) q ∙ rw (d q)
      go false e (no q) = step_other (st s p lo n) (get_or l to 0) e q c

  -- a number that does not end a run does not open one
  shut : closes p lo n ≡ false → opens p lo n ≡ false
  shut e = go (ℕ_discrete lo 0)
    where
      go : Dec (lo ≡ 0) → opens p lo n ≡ false
      go (yes q) = rw (eq-eqb lo 0 q) (rw (eq-eqb lo 0 q) at e)
      go (no q) = rw (ne_eqb lo 0 q)

  closed : closes p lo n ≡ false → close_in (st s p lo n) ≡ bad
  unfolding close_in
  closed e = rw e

  stuck : closes p lo n ≡ false → close_in (steps (st s p lo n) (drop to l)) ≡ bad
  unfolding close_in
  stuck e = go (dec_lt to (length l)) (ℕ_discrete (get_or l to 0) 44)
    where
      go : Dec (to < length l) → Dec (get_or l to 0 ≡ 44) → close_in (steps (st s p lo n) (drop to l)) ≡ bad
      go (yes q) (yes c) =
          ap close_in (steps_on (st s p lo n) l to q ∙ ap (λ (y : St). steps y (drop (to + 1) l)) (step-comma (st s p lo n) (get_or l to 0) c ∙ closed e) ∙ steps-bad (drop (to + 1) l))
      go (yes q) (no c) = ap close_in (refuses q c (λ d. shut e))
      go (no q) c = ap close_in (steps-end (st s p lo n) l to (omega arith)) ∙ closed e

-- ---- what is read at a place
pub dash-inside : (l : Bytes) (to : ℕ) → get_or l to 44 ≡ 45 → to < length l
dash-inside l to d = comma-less l to (λ e. omega arith)

module _ {l : Bytes} {at p lo to : ℕ} (o : NumberAt l at lo to) (x : Ended l lo to) where
  -- no number past the bound
  pub none-past : {u v : ℕ} → lo ≤ p → RunAt l at p u 0 v
  none-past h = nothing refl (λ s. ap close_in (number-steps o s p 0) ∙ stuck l s p 0 lo to x (le-ltb p lo h))

  -- a number alone
  pub run_alone : p < lo → (get_or l to 44 ≡ 45 → ⊥) → RunAt l at p lo lo to
  unfolding run_text
  run_alone h d = go o
    where
      go : NumberAt l at lo to → RunAt l at p lo lo to
      go (stays e f) = absurd (omega arith)
      go (reads i j e f g) = run h (omega arith) j f g (rw (le-ltb lo lo (omega arith)) e) x (λ _. d)

  -- a number with a dash after it
  module _ (h : p < lo) (d : get_or l to 44 ≡ 45) where
    dash-is : get_or l to 0 ≡ 45
    dash-is = inside-default l to (dash-inside l to d) ∙ d

    -- and a second one
    module _ {hi end : ℕ} (q : NumberAt l (to + 1) hi end) (y : Ended l hi end) where
      pub none-up : {u v : ℕ} → hi ≤ lo → RunAt l at p u 0 v
      unfolding dash_in
      none-up k =
          nothing refl
          (λ s. ap close_in (number-steps o s p 0 ∙ steps_on (st s p 0 lo) l to (dash-inside l to d)
          ∙ ap (λ (z : St). steps z (drop (to + 1) l)) (step-dash (st s p 0 lo) (get_or l to 0) dash-is ∙ rw (lt-ltb p lo h)) ∙ number-steps q s p lo)
          ∙ stuck l s p lo hi end y (rw (ne_eqb lo 0 (omega arith)) (le-ltb lo hi k)))

      pub run-both : lo < hi → RunAt l at p lo hi end
      unfolding run_text
      run-both k = go o q
        where
          go : NumberAt l at lo to → NumberAt l (to + 1) hi end → RunAt l at p lo hi end
          go (stays e f) _ = absurd (omega arith)
          go (reads i j e f g) (stays e' f') = absurd (omega arith)
          go (reads i j e f g) (reads i' j' e' f' g') =
              run h (omega arith) j' (omega arith) g'
              (rw (lt-ltb lo hi k) (e ∙ ap (λ (t : Bytes). digits lo ++ t) (drop-one l to (omega (arith, dash-inside l to d)) ∙ ap₂ (λ (b : ℕ) (t : Bytes). b ∷ t) dash-is e'))) y (λ z. absurd (omega arith))

-- ---- what the reader makes of it, which has the set s so far
module _ (l : Bytes) (s : ℕ → Bool) (p at : ℕ) (inv : close_in (steps (st s p 0 0) (drop at l)) ≡ close_in (steps (st empty_set 0 0 0) l)) where
  after_run : (lo hi to : ℕ) → p < lo → lo ≤ hi → hi < 1000 → drop at l ≡ run_text lo hi (drop to l)
      → close_in (steps (st s p (start_of lo hi) hi) (drop to l)) ≡ close_in (steps (st empty_set 0 0 0) l)
  after_run lo hi to h k b e = sym (ap close_in (ap (steps (st s p 0 0)) e ∙ run-steps s p lo hi h k b (drop to l))) ∙ inv

  -- nothing
  pub run_none : {lo hi to : ℕ} → RunAt l at p lo hi to → hi ≡ 0 → refused ≡ parsed l
  unfolding read_in
  run_none {lo} {hi} {to} (nothing e f) z = sym (ap set_in (sym inv ∙ f s)) ∙ read-parsed l
  run_none {lo} {hi} {to} (run h k b a g e x d) z = absurd (omega arith)

  -- a run
  pub run_fits : {lo hi to : ℕ} → RunAt l at p lo hi to → (hi ≡ 0 → ⊥) → (lo ≤ hi) × (hi < 1000) × (at ≤ to) × (to ≤ length l)
  run_fits {lo} {hi} {to} (nothing e f) z = absurd (z e)
  run_fits {lo} {hi} {to} (run h k b a g e x d) z = (k, b, a, g)

  -- at the end of the text
  pub run-last : {lo hi to : ℕ} → RunAt l at p lo hi to → (hi ≡ 0 → ⊥) → length l ≤ to → (t : ℕ → Bool) → t ≡ joined s (between lo hi) → accepted t ≡ parsed l
  unfolding read_in
  run-last {lo} {hi} {to} (nothing e f) z w t q = absurd (z e)
  run-last {lo} {hi} {to} (run h k b a g e x d) z w t q =
      ap set_in (ap (λ (u : ℕ → Bool). st u (hi + 1) 0 0) q ∙ sym (run-close s p lo hi h k b) ∙ ap close_in (sym (steps-end (st s p (start_of lo hi) hi) l to w)) ∙ after_run lo hi to h k b e)
      ∙ read-parsed l

  -- before a byte that is no comma
  pub run-other : {lo hi to : ℕ} → RunAt l at p lo hi to → (hi ≡ 0 → ⊥) → to < length l → (get_or l to 0 ≡ 44 → ⊥) → refused ≡ parsed l
  unfolding read_in close_in
  run-other {lo} {hi} {to} (nothing e f) z w c = absurd (z e)
  run-other {lo} {hi} {to} (run h k b a g e x d) z w c =
      sym (ap set_in (sym (after_run lo hi to h k b e) ∙ ap close_in (refuses l s p (start_of lo hi) hi to x w c (λ v. go (dec_lt lo hi) v)))) ∙ read-parsed l
    where
      go : Dec (lo < hi) → get_or l to 0 ≡ 45 → opens p (start_of lo hi) hi ≡ false
      go (yes q) v = rw (lt-ltb lo hi q, ne_eqb lo 0 (omega arith))
      go (no q) v = absurd (d (omega arith) (sym (inside-default l to w) ∙ v))

  -- before a comma
  pub run-comma : {lo hi to : ℕ} → RunAt l at p lo hi to → (hi ≡ 0 → ⊥) → to < length l → get_or l to 0 ≡ 44 → (t : ℕ → Bool) → t ≡ joined s (between lo hi)
      → close_in (steps (st t (hi + 1) 0 0) (drop (to + 1) l)) ≡ close_in (steps (st empty_set 0 0 0) l)
  run-comma {lo} {hi} {to} (nothing e f) z w c t q = absurd (z e)
  run-comma {lo} {hi} {to} (run h k b a g e x d) z w c t q =
      sym (ap close_in (steps_on (st s p (start_of lo hi) hi) l to w
      ∙ ap (λ (y : St). steps y (drop (to + 1) l)) (step-comma (st s p (start_of lo hi) hi) (get_or l to 0) c ∙ run-close s p lo hi h k b ∙ ap (λ (u : ℕ → Bool). st u (hi + 1) 0 0) (sym q))))
      ∙ after_run lo hi to h k b e
