-- The text of a changed set, from the text of the set: its first bytes, and then a tail.
use Prim.Native.Nat.{ℕ, ◌+◌, ◌≤◌, ◌<◌}
use Rattle.std.specs.Prelude.{◌≡◌, Bool, ◌||◌, length, take}
use Rattle.std.proofs.Math.Path.{refl, sym, ap}
use Rattle.std.proofs.Common.{◌∙◌, length-append, take_at}
use mathlib.Core.List.{List, [], ◌∷◌, ◌++◌, append_assoc, append-nil}
use Rattle.std.proofs.Math.Bool.{false, or-false}
use native.Mathlib.Omega.{arith}
use Rattle.std.proofs.Math.Dec.{eqb}
use Rattle.std.proofs.Math.Seq.{take-length}
use borrow.Author.Tests.{eq-eqb, eqb-true}
use Rattle.xml.specs.Bytes.{Bytes, any}
use Rattle.xml.specs.Truth.{or-first, or-second, or_swap}
use Rattle.timestamp.specs.Times.{decimal, write_run}
use Rattle.timestamp.specs.TimesLaws.{in_run, in-run, run_in_lem, in_run-one, bool_eq, or-by, same_or}
use Rattle.timestamp.specs.Set.{adding}
use Rattle.timestamp.specs.Runs.{Asc, in_runs}
use Rattle.timestamp.specs.Listed.{text_of}
use Rattle.timestamp.specs.Digits.{run_text, text, run-text}
use Rattle.timestamp.specs.Digits as digits
use Rattle.timestamp.specs.Parse.{accepted, parsed}
use Rattle.timestamp.specs.Write.{run-same, run_long}
use Rattle.timestamp.specs.RunAt.{RunAt}
use Rattle.timestamp.specs.declared.change.Tail.{Tail}
use Rattle.timestamp.specs.declared.change.Tail.TheVariants.{Nothing, Dashed, Listed, Alone}
use Rattle.timestamp.specs.Place.{IsSetTo, lead, Place, LastStart, Reads, text-cons, from_place, split-place, asc-swap, text-swap, runs_append, place_set, place-begins, read-place, last-alone}

-- what comes after the bytes that stay: nothing, the number v after a dash, v after a comma, or v alone
abbrev pub tail_text : Tail → ℕ → Bytes
tail_text Nothing v = []
tail_text Dashed v = 45 ∷ decimal v
tail_text Listed v = 44 ∷ decimal v
tail_text Alone v = decimal v

-- nothing stays and nothing comes after
abbrev pub is_void : ℕ → Tail → Bool
is_void to Nothing = eqb to 0
is_void to Dashed = false
is_void to Listed = false
is_void to Alone = false

-- the text of the changed set is the first `to` bytes of the set's own, and then the tail with v
pub record Changes (l : Bytes) (f : (ℕ → Bool) → ℕ → Bool) (v to : ℕ) (tail : Tail) : Type 0 where
  pub inside : to ≤ length l
  pub becomes : (s : ℕ → Bool) → parsed l ≡ accepted s → text_of (f s) ≡ take to l ++ tail_text tail v

-- ---- a run alone at the end
pub run_end : (p : ℕ) (r : ℕ × ℕ) → Asc p (r ∷ []) → text (r ∷ []) ≡ write_run r
unfolding digits.tail_text
run_end p r a = text-cons p r [] a ∙ append-nil (write_run r)

-- ---- the next number is added
-- the text's last run is a to b, and its set has no number above n
module _ {l : Bytes} {at : ℕ} (c : Place l at) (end : c.after ≡ []) (n : ℕ) (w : IsSetTo n l) (h : n ≤ 998) where
  abbrev a : ℕ
  a = c.q.0

  abbrev b : ℕ
  b = c.q.1

  asc : Asc 0 (c.before ++ c.q ∷ [])
  asc = rw end at c.asc

  bounds : (0 < a) × (a ≤ b) × (b < 1000)
  bounds = let x = from_place c in (x.0, x.1, x.2)

  set : (s : ℕ → Bool) → parsed l ≡ accepted s → s ≡ in_runs (c.before ++ c.q ∷ [])
  set s e = rw end at (place_set l s e c)

  is-text : l ≡ lead c.before ++ write_run c.q
  is-text = split-place c ∙ ap (λ (t : Bytes). lead c.before ++ t) (ap (λ (rs : List (ℕ × ℕ)). text (c.q ∷ rs)) end ∙ run_end 0 c.q (bounds.0, bounds.1, bounds.2, tt))

  pub last-most : b ≤ n
  unfolding any
  last-most =
      let o = w.only b (ap (λ (t : ℕ → Bool). t b) (set w.s w.is) ∙ runs_append c.before (c.q ∷ []) b
      ∙ or-second (in_runs c.before b) (in_runs (c.q ∷ []) b) (or-first (in_run b c.q) false (in-run b a b bounds.1 (omega arith)))) in o.1

  -- the runs from the last on become r and rs
  added : (r : ℕ × ℕ) (rs : List (ℕ × ℕ)) → ((m : ℕ) → Asc m (c.q ∷ []) → Asc m (r ∷ rs)) → ((u : ℕ) → (eqb u (n + 1) || in_runs (c.q ∷ []) u) ≡ in_runs (r ∷ rs) u)
      → (s : ℕ → Bool) → parsed l ≡ accepted s → text_of (adding (n + 1) s) ≡ lead c.before ++ text (r ∷ rs)
  added r rs f g s e =
      text-swap (adding (n + 1) s) c.before r rs (asc-swap 0 c.before (c.q ∷ []) (r ∷ rs) f asc)
      (λ u. ap (λ (t : ℕ → Bool). eqb u (n + 1) || t u) (set s e) ∙ ap (λ (y : Bool). eqb u (n + 1) || y) (runs_append c.before (c.q ∷ []) u)
      ∙ or_swap (eqb u (n + 1)) (in_runs c.before u) (in_runs (c.q ∷ []) u) ∙ ap (λ (y : Bool). in_runs c.before u || y) (g u))

  -- after a gap
  pub grown-gap : b < n → Changes l (adding (n + 1)) (n + 1) (length l) Listed
  unfolding any digits.tail_text
  grown-gap k =
      record {
        inside = omega arith;
        becomes = λ s e. added c.q ((n + 1, n + 1) ∷ []) (λ m x. (x.0, x.1, x.2, (omega arith, omega arith, omega arith, tt))) same s e
            ∙ ap (λ (t : Bytes). lead c.before ++ t) (text-cons 0 c.q ((n + 1, n + 1) ∷ []) (bounds.0, bounds.1, bounds.2, (omega arith, omega arith, omega arith, tt))
            ∙ ap (λ (t : Bytes). write_run c.q ++ 44 ∷ t) alone)
            ∙ sym (append_assoc (lead c.before) (write_run c.q) (44 ∷ decimal (n + 1))) ∙ ap (λ (t : Bytes). t ++ 44 ∷ decimal (n + 1)) (sym (take-length l ∙ is-text));
      }
    where
      alone : run_text (n + 1) (n + 1) [] ≡ decimal (n + 1)
      alone = sym (run-text (n + 1) (n + 1) [] (omega arith) (omega arith) (omega arith)) ∙ append-nil (write_run (n + 1, n + 1)) ∙ run-same (n + 1) (n + 1) refl

      same : (u : ℕ) → (eqb u (n + 1) || in_runs (c.q ∷ []) u) ≡ in_runs (c.q ∷ (n + 1, n + 1) ∷ []) u
      same u = or_swap (eqb u (n + 1)) (in_run u c.q) false ∙ ap (λ (y : Bool). in_run u c.q || (y || false)) (in_run-one u (n + 1))

  -- the last run goes on
  module _ (k : b ≡ n) where
    longer : (u : ℕ) → (eqb u (n + 1) || in_runs (c.q ∷ []) u) ≡ in_runs ((a, n + 1) ∷ []) u
    unfolding any
    longer u =
        ap (λ (y : Bool). eqb u (n + 1) || y) (or-false (in_run u c.q))
        ∙ bool_eq (eqb u (n + 1) || in_run u c.q) (in_run u (a, n + 1))
        (λ t. or-by (eqb u (n + 1)) (in_run u c.q) t (λ x. let e = eqb-true u (n + 1) x in in-run u a (n + 1) (omega (arith, bounds.1)) (omega arith))
        (λ x. let y = run_in_lem u a b x in in-run u a (n + 1) y.0 (omega (arith, y.1))))
        (λ t. let y = run_in_lem u a (n + 1) t in same_or u (n + 1) (λ e. or-first (eqb u (n + 1)) (in_run u c.q) (eq-eqb u (n + 1) e))
        (λ e. or-second (eqb u (n + 1)) (in_run u c.q) (in-run u a b y.0 (omega (arith, e, y.1)))))
        ∙ sym (or-false (in_run u (a, n + 1)))

    grown-on : (s : ℕ → Bool) → parsed l ≡ accepted s → text_of (adding (n + 1) s) ≡ lead c.before ++ ((decimal a ++ 45 ∷ []) ++ decimal (n + 1))
    grown-on s e =
        added (a, n + 1) [] (λ m x. (x.0, omega (arith, x.1), omega arith, tt)) longer s e
        ∙ ap (λ (t : Bytes). lead c.before ++ t) (run_end 0 (a, n + 1) (bounds.0, omega (arith, bounds.1), omega arith, tt) ∙ run_long a (n + 1) (λ z. omega (arith, z, bounds.1)))

    -- which is one number
    pub grown-one : a ≡ b → Changes l (adding (n + 1)) (n + 1) (length l) Dashed
    grown-one z =
        record {
          inside = omega arith;
          becomes = λ s e. grown-on s e ∙ ap (λ (t : Bytes). lead c.before ++ t) (append_assoc (decimal a) (45 ∷ []) (decimal (n + 1)))
              ∙ sym (append_assoc (lead c.before) (decimal a) (45 ∷ decimal (n + 1)))
              ∙ ap (λ (t : Bytes). t ++ 45 ∷ decimal (n + 1)) (sym (take-length l ∙ is-text ∙ ap (λ (t : Bytes). lead c.before ++ t) (run-same a b z)));
        }

    -- or more
    pub grown-more : (a ≡ b → ⊥) → Changes l (adding (n + 1)) (n + 1) (at + length (decimal a) + 1) Alone
    grown-more z =
        record {
          inside = omega (arith, ap length is, length-append front (decimal b), long);
          becomes = λ s e. grown-on s e ∙ sym (append_assoc (lead c.before) (decimal a ++ 45 ∷ []) (decimal (n + 1)))
              ∙ ap (λ (t : Bytes). t ++ decimal (n + 1)) (sym (ap (take (at + length (decimal a) + 1)) is ∙ take_at front (decimal b) (at + length (decimal a) + 1) long));
        }
      where
        front : Bytes
        front = lead c.before ++ (decimal a ++ 45 ∷ [])

        is : l ≡ (lead c.before ++ (decimal a ++ 45 ∷ [])) ++ decimal b
        is = is-text ∙ ap (λ (t : Bytes). lead c.before ++ t) (run_long a b z) ∙ sym (append_assoc (lead c.before) (decimal a ++ 45 ∷ []) (decimal b))

        long : length (lead c.before ++ (decimal a ++ 45 ∷ [])) ≡ at + length (decimal a) + 1
        long = rw (length-append (lead c.before) (decimal a ++ 45 ∷ []), length-append (decimal a) (45 ∷ [])) (omega (arith, c.place))

-- ---- what is read of the last run tells
module _ {l : Bytes} {at lo hi to n : ℕ} (w : IsSetTo n l) (b : LastStart l at) (r : RunAt l at 0 lo hi to) (h : n ≤ 998) where
  last-place : Place l at
  last-place = place-begins l w.s w.is at b.comma

  reads : Reads last-place.q last-place.after l lo hi to
  reads = read-place last-place r

  pub last-low : (1 ≤ lo) × (lo < 1000)
  last-low = let x = from_place last-place in (omega (arith, x.0, reads.first), omega (arith, x.1, x.2, reads.first))

  most : hi ≤ n
  most = omega (arith, reads.last, last-most last-place (last-alone last-place b) n w h)

  pub read-gap : hi < n → Changes l (adding (n + 1)) (n + 1) (length l) Listed
  read-gap k = grown-gap last-place (last-alone last-place b) n w h (omega (arith, reads.last))

  pub read_one : n ≤ hi → lo ≡ hi → Changes l (adding (n + 1)) (n + 1) (length l) Dashed
  read_one k e = grown-one last-place (last-alone last-place b) n w h (omega (arith, reads.last, most)) (sym reads.first ∙ e ∙ reads.last)

  pub read_more : n ≤ hi → (lo ≡ hi → ⊥) → (d : ℕ) → d ≡ length (decimal lo) → Changes l (adding (n + 1)) (n + 1) (at + d + 1) Alone
  read_more k e d i =
      rw (i ∙ ap (λ (m : ℕ). length (decimal m)) reads.first)
      (grown-more last-place (last-alone last-place b) n w h (omega (arith, reads.last, most)) (λ z. e (reads.first ∙ z ∙ sym reads.last)))
