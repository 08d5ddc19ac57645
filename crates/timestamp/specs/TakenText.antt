-- A text's set taken out of another, run by run: what is known on the way, and the answer.
use Prim.Native.Nat.{ℕ, ◌+◌, ◌-◌, ◌*◌, ◌≤◌, ◌<◌}
use Rattle.std.specs.Prelude.{◌≡◌, false, ◌&&◌, ◌||◌, eqb, leb, length, get_or, drop, Option, Some, None, MatchOption, unwrap_or}
use Rattle.std.proofs.Math.Path.{refl, sym, ap, fun_ext}
use Rattle.std.proofs.Common.{◌∙◌, arith}
use mathlib.Core.List.{List, [], ◌∷◌}
use Rattle.std.proofs.Math.Bool.{Bool, true, not, and-true}
use Rattle.std.proofs.Math.Decide.{dec_lt, ℕ_discrete}
use borrow.Author.Tests.{le-leb, lt-leb, leb-true}
use Rattle.xml.specs.Bytes.{Bytes, is_digit}
use Rattle.xml.specs.Truth.{both, clash, not_so, and_left, and_right, or-first, or-second}
use Rattle.timestamp.specs.TimesLaws.{or-by}
use Rattle.timestamp.specs.Set.{set_of, empty_set, between, joined, without, subset, first_in}
use Rattle.timestamp.specs.Tests.{subset-tells, subset-told}
use Rattle.timestamp.specs.First.{first-is}
use Rattle.timestamp.specs.Parse.{Outcome, refused, accepted, parsed}
use Rattle.timestamp.specs.Reading.{St, st, bad, pick_s, more, opens, closes, start_at, digit_in, dash_in, close_in, step_in, steps, set_in, read_in}
use Rattle.timestamp.specs.Parses.{read-parsed}
use Rattle.timestamp.specs.RunAt.{RunAt, nothing, run, run_none, run_fits, run-last, run-other, run-comma}
use Rattle.timestamp.specs.Taken.{Taken}

abbrev pub some_if : Bool → ℕ → Option ℕ
some_if true n = Some n
some_if false n = None

-- the first number of the set that is read, if all its numbers are in t
unfoldable pub first_taken : (ℕ → Bool) → Outcome → Option ℕ
first_taken t refused = None
first_taken t (accepted s) = some_if (subset s t) (first_in 1024 s 0)

-- the answer, and what is left of the words a: without that set
abbrev pub TakesText : Bytes → List ℕ → List ℕ → Option ℕ → Type 0
TakesText l a w r = (r ≡ first_taken (set_of a) (parsed l)) × ((s : ℕ → Bool) → parsed l ≡ accepted s → subset s (set_of a) ≡ true → set_of w ≡ without (set_of a) s) × (length w ≡ 16)

-- ---- what is read is a set or nothing
is_accepted : Outcome → Bool
is_accepted refused = false
is_accepted (accepted s) = true

members : Outcome → ℕ → Bool
members refused = empty_set
members (accepted s) = s

not-both : {A : Type 0} {o : Outcome} {s : ℕ → Bool} → refused ≡ o → o ≡ accepted s → A
unfolding is_accepted
not-both r e = clash (sym (ap is_accepted (r ∙ e)))

same_read : {o : Outcome} {s t : ℕ → Bool} → accepted t ≡ o → o ≡ accepted s → t ≡ s
unfolding members
same_read r e = ap members (r ∙ e)

-- ---- the set grows as the text is read
unfoldable Has : ℕ → St → Type 0
Has v bad = Unit
Has v (st s p lo n) = s v ≡ true

picked-has : (v : ℕ) (m : Bool) (x y : St) → Has v x → Has v y → Has v (pick_s m x y)
picked-has v true x y h g = h
picked-has v false x y h g = g

module _ (v : ℕ) where
  digit-has : (x : St) (b : ℕ) → Has v x → Has v (digit_in x b)
  unfolding Has digit_in
  digit-has bad b h = tt
  digit-has (st s p lo n) b h = picked-has v (more n b) (st s p lo (n * 10 + (b - 48))) bad h tt

  dash-has : (x : St) → Has v x → Has v (dash_in x)
  unfolding Has dash_in
  dash-has bad h = tt
  dash-has (st s p lo n) h = picked-has v (opens p lo n) (st s p n 0) bad h tt

  close-has : (x : St) → Has v x → Has v (close_in x)
  unfolding Has close_in
  close-has bad h = tt
  close-has (st s p lo n) h = picked-has v (closes p lo n) (st (joined s (between (start_at lo n) n)) (n + 1) 0 0) bad (or-first (s v) (between (start_at lo n) n v) h) tt

  step-has : (x : St) (b : ℕ) → Has v x → Has v (step_in x b)
  unfolding Has step_in
  step-has x b h =
      picked-has v (is_digit b) (digit_in x b) (pick_s (eqb b 45) (dash_in x) (pick_s (eqb b 44) (close_in x) bad)) (digit-has x b h)
      (picked-has v (eqb b 45) (dash_in x) (pick_s (eqb b 44) (close_in x) bad) (dash-has x h) (picked-has v (eqb b 44) (close_in x) bad (close-has x h) tt))

  steps-has : (l : List ℕ) (x : St) → Has v x → Has v (steps x l)
  unfolding steps
  steps-has [] x h = h
  steps-has (b ∷ bs) x h = steps-has bs (step_in x b) (step-has x b h)

  read_has : (x : St) {o : Outcome} {s : ℕ → Bool} → Has v x → set_in x ≡ o → o ≡ accepted s → s v ≡ true
  unfolding Has
  read_has bad h r e = not-both r e
  read_has (st t p lo n) h r e = sym (ap (λ (u : ℕ → Bool). u v) (same_read r e)) ∙ h

-- a run that is read is in the set
module _ (l : Bytes) (s : ℕ → Bool) (p at : ℕ) (inv : close_in (steps (st s p 0 0) (drop at l)) ≡ close_in (steps (st empty_set 0 0 0) l)) where
  run-member : {lo hi to : ℕ} → RunAt l at p lo hi to → (hi ≡ 0 → ⊥) → (t : ℕ → Bool) → parsed l ≡ accepted t → (v : ℕ) → between lo hi v ≡ true → t v ≡ true
  unfolding Has read_in
  run-member {lo} {hi} {to} r z t e v b = go (dec_lt to (length l)) (ℕ_discrete (get_or l to 0) 44)
    where
      more-set : ℕ → Bool
      more-set = joined s (between lo hi)

      go : Dec (to < length l) → Dec (get_or l to 0 ≡ 44) → t v ≡ true
      go (yes q) (yes c) =
          read_has v (close_in (steps (st empty_set 0 0 0) l))
          (rw (sym (run-comma l s p at inv r z q c more-set refl)) (close-has v _ (steps-has v (drop (to + 1) l) (st more-set (hi + 1) 0 0) (or-second (s v) (between lo hi v) b)))) (read-parsed l) e
      go (yes q) (no c) = not-both (run-other l s p at inv r z q c) e
      go (no q) c = sym (ap (λ (u : ℕ → Bool). u v) (same_read (run-last l s p at inv r z (omega arith) more-set refl) e)) ∙ or-second (s v) (between lo hi v) b

-- ---- on the way: the runs before `at` are taken out of a, which leaves w
-- the set's first number; or it has none yet
abbrev pub Begins : Option ℕ → ℕ → (ℕ → Bool) → Type 0
Begins first p s = MatchOption first (s ≡ empty_set) (λ f. (f < p) × (s f ≡ true) × ((u : ℕ) → u < f → s u ≡ false))

pub record TakingText (l : Bytes) (a : List ℕ) (first : Option ℕ) (p at : ℕ) (w : List ℕ) : Type 0 where
  pub set : ℕ → Bool
  pub reads : close_in (steps (st set p 0 0) (drop at l)) ≡ close_in (steps (st empty_set 0 0 0) l)
  pub inside : at ≤ length l
  pub size : length w ≡ 16
  pub left : set_of w ≡ without (set_of a) set
  pub had : subset set (set_of a) ≡ true
  pub under : (v : ℕ) → set v ≡ true → v < p
  pub begins : Begins first p set

pub text-start : (l : Bytes) (a : List ℕ) → length a ≡ 16 → TakingText l a None 0 0 a
text-start l a e =
    record {
      set = empty_set;
      reads = refl;
      inside = omega arith;
      size = e;
      left = fun_ext (λ v. sym (and-true (set_of a v)));
      had = subset-told empty_set (set_of a) (λ v l q. clash (sym q));
      under = λ v q. clash (sym q);
      begins = refl;
    }

pub text-refused : (l : Bytes) (a w : List ℕ) → refused ≡ parsed l → length w ≡ 16 → TakesText l a w None
unfolding first_taken
text-refused l a w r e = (ap (first_taken (set_of a)) r, λ s d h. not-both r d, e)

module _ {l : Bytes} {a : List ℕ} {first : Option ℕ} {p at : ℕ} {w : List ℕ} (x : TakingText l a first p at w) {lo hi to : ℕ} (r : RunAt l at p lo hi to) where
  pub text-none : hi ≡ 0 → TakesText l a w None
  text-none z = text-refused l a w (run_none l x.set p at x.reads r z) x.size

  module _ (z : hi ≡ 0 → ⊥) where
    pub text-fits : (lo ≤ hi) × (hi < 1000) × (at ≤ to) × (to ≤ length l)
    text-fits = run_fits l x.set p at x.reads r z

    past : p < lo
    past = go r
      where
        go : RunAt l at p lo hi to → p < lo
        go (nothing e f) = absurd (z e)
        go (run h k b i g e y d) = h

    module _ (v : List ℕ) {b : Bool} (t : Taken w (between lo hi) v b) where
      -- a number of the run was not there
      pub text-lacks : b ≡ false → TakesText l a v None
      unfolding first_taken
      text-lacks f = (go (parsed l) refl, λ s d h. absurd (none-there s d h), t.2)
        where
          none-there : (s : ℕ → Bool) → parsed l ≡ accepted s → subset s (set_of a) ≡ true → ⊥
          none-there s d h =
              clash (sym (subset-told (between lo hi) (set_of w) (λ u m q.
              ap (λ (g : ℕ → Bool). g u) x.left
              ∙ both (subset-tells s (set_of a) h u m (run-member l x.set p at x.reads r z s d u q))
              (ap not (not_so (x.set u) (λ y. omega (arith, past, x.under u y, leb-true lo u (and_left (leb lo u) (leb u hi) q))))))) ∙ sym t.0 ∙ f)

          go : (o : Outcome) → parsed l ≡ o → None ≡ first_taken (set_of a) (parsed l)
          go refused e = rw e
          go (accepted s) e = rw (e, not_so (subset s (set_of a)) (none-there s e))

      module _ (all : b ≡ true) where
        abbrev now : ℕ → Bool
        now = joined x.set (between lo hi)

        taken-left : set_of v ≡ without (set_of a) now
        taken-left = t.1 all ∙ fun_ext (λ u. ap (λ (g : ℕ → Bool). g u && not (between lo hi u)) x.left ∙ go (set_of a u) (x.set u) (between lo hi u))
          where
            go : (b c d : Bool) → (b && not c && not d) ≡ (b && not (c || d))
            go true true d = refl
            go true false d = refl
            go false c d = refl

        taken-had : subset now (set_of a) ≡ true
        taken-had =
            subset-told now (set_of a) (λ u m q.
            or-by (x.set u) (between lo hi u) q (λ y. subset-tells x.set (set_of a) x.had u m y)
            (λ y. and_left (set_of a u) (not (x.set u)) (sym (ap (λ (g : ℕ → Bool). g u) x.left) ∙ subset-tells (between lo hi) (set_of w) (sym t.0 ∙ all) u m y)))

        taken-under : (u : ℕ) → now u ≡ true → u < hi + 1
        taken-under u q =
            or-by (x.set u) (between lo hi u) q (λ y. omega (arith, x.under u y, past, text-fits.0)) (λ y. omega (arith, leb-true u hi (and_right (leb lo u) (leb u hi) y)))

        -- the first number of what is taken now
        abbrev Starts : ℕ → Type 0
        Starts f = (f < hi + 1) × (now f ≡ true) × ((u : ℕ) → u < f → now u ≡ false)

        starts-anew : x.set ≡ empty_set → Starts lo
        starts-anew n = (
          omega (arith, text-fits.0),
          or-second (x.set lo) (between lo hi lo) (rw (le-leb lo lo (omega arith), le-leb lo hi text-fits.0)),
          λ u h. rw (ap (λ (g : ℕ → Bool). g u) n, lt-leb lo u h),
        )

        starts-on : (f : ℕ) → f < p → x.set f ≡ true → ((u : ℕ) → u < f → x.set u ≡ false) → Starts f
        starts-on f l m n = (
          omega (arith, past, text-fits.0),
          or-first (x.set f) (between lo hi f) m,
          λ u h. rw (n u h, lt-leb lo u (omega (arith, past))),
        )

        taken-begins : Starts (unwrap_or first lo)
        taken-begins = go first x.begins
          where
            go : (o : Option ℕ) → Begins o p x.set → Starts (unwrap_or o lo)
            go None n = starts-anew n
            go (Some f) y = starts-on f y.0 y.1 y.2

        taken-first : first_in 1024 now 0 ≡ unwrap_or first lo
        taken-first =
            let y = taken-begins in first-is now 1024 0 (unwrap_or first lo) (omega arith) (omega (arith, y.0, text-fits.1)) (λ u z h. y.2 u h) (λ _. y.1)

        -- at the text's end
        pub text-last : length l ≤ to → TakesText l a v (Some (unwrap_or first lo))
        unfolding first_taken
        text-last h =
            let e = run-last l x.set p at x.reads r z h now refl in (
              rw (sym e, taken-had) (ap Some (sym taken-first)),
              λ s d i. taken-left ∙ ap (without (set_of a)) (same_read e d),
              t.2,
            )

        -- before a byte that is no comma
        pub text-other : to < length l → (get_or l to 0 ≡ 44 → ⊥) → TakesText l a v None
        text-other h c = text-refused l a v (run-other l x.set p at x.reads r z h c) t.2

        -- before a comma
        pub text-more : to < length l → get_or l to 0 ≡ 44 → TakingText l a (Some (unwrap_or first lo)) (hi + 1) (to + 1) v
        text-more h c =
            record {
              set = now;
              reads = run-comma l x.set p at x.reads r z h c now refl;
              inside = omega arith;
              size = t.2;
              left = taken-left;
              had = taken-had;
              under = taken-under;
              begins = taken-begins;
            }
