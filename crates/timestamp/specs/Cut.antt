-- The text of a set that is cut at a number, from the text of the set and its last run that begins at the number or below it.
use Prim.Native.Nat.{ℕ, ◌+◌, ◌≤◌, ◌<◌}
use Rattle.std.specs.Prelude.{◌≡◌, refl, List, [], ◌∷◌, ◌++◌, Bool, true, ◌&&◌, ◌||◌, length, take}
use Rattle.std.proofs.Common.{sym, ◌∙◌, append_assoc, append-nil, arith, length-append, length-drop, take_at}
use Rattle.std.proofs.Math.Path.{ap, fun_ext}
use Rattle.std.proofs.Math.Bool.{false}
use Rattle.std.proofs.Math.Dec.{leb}
use borrow.Author.Tests.{le-leb, leb-true}
use Rattle.xml.specs.Bytes.{Bytes, any}
use Rattle.xml.specs.Truth.{clash, not_so, and_left, and_right, and_both, or-first, or-second}
use Rattle.timestamp.specs.Times.{decimal, write_run}
use Rattle.timestamp.specs.TimesLaws.{in_run, in-run, run_in_lem, bool_eq, or-by}
use Rattle.timestamp.specs.Set.{cut_at}
use Rattle.timestamp.specs.Runs.{in_runs}
use Rattle.timestamp.specs.Listed.{text_of, text-none}
use Rattle.timestamp.specs.Digits.{tail_text}
use Rattle.timestamp.specs.Parse.{accepted, parsed}
use Rattle.timestamp.specs.Write.{run-same, run_long}
use Rattle.timestamp.specs.Place.{lead, Reads, text-cons, from_place, split-place, asc-swap, text-swap, runs_append, place_set}
use Rattle.timestamp.specs.Narrow.{Narrowed, before-out, none_after}
use Rattle.timestamp.specs.Change.{Changes, run_end}
use Rattle.timestamp.specs.declared.change.Tail.TheVariants.{Nothing, Dashed}

module _ {l : Bytes} {i at : ℕ} (n : Narrowed l i at) where
  abbrev before : List (ℕ × ℕ)
  before = n.here.before

  abbrev after : List (ℕ × ℕ)
  after = n.here.after

  abbrev a : ℕ
  a = n.here.q.0

  abbrev b : ℕ
  b = n.here.q.1

  bounds : (0 < a) × (a ≤ b) × (b < 1000)
  bounds = let x = from_place n.here in (x.0, x.1, x.2)

  -- a number of the set is in a run before this one, in it, or in one after it
  member : (s : ℕ → Bool) → parsed l ≡ accepted s → (u : ℕ) → s u ≡ (in_runs before u || (in_run u (a, b) || in_runs after u))
  unfolding any
  member s e u = ap (λ (t : ℕ → Bool). t u) (place_set l s e n.here) ∙ runs_append before ((a, b) ∷ after) u

  -- the cut run ends at e
  module _ (e : ℕ) (ae : a ≤ e) (eb : e ≤ b) (ei : e ≤ i) (most : (u : ℕ) → u ≤ b → u ≤ i → u ≤ e) where
    cut-same : (s : ℕ → Bool) → parsed l ≡ accepted s → (u : ℕ) → cut_at i s u ≡ (in_runs before u || in_runs ((a, e) ∷ []) u)
    unfolding any
    cut-same s p u =
        bool_eq (s u && leb u i) (in_runs before u || (in_run u (a, e) || false))
        (λ t. let h = leb-true u i (and_right (s u) (leb u i) t) in
        or-by (in_runs before u) (in_run u (a, b) || in_runs after u) (sym (member s p u) ∙ and_left (s u) (leb u i) t)
        (λ x. or-first (in_runs before u) (in_run u (a, e) || false) x)
        (λ x. or-by (in_run u (a, b)) (in_runs after u) x
        (λ y. let r = run_in_lem u a b y in or-second (in_runs before u) (in_run u (a, e) || false) (or-first (in_run u (a, e)) false (in-run u a e r.0 (most u r.1 h))))
        (λ y. clash (sym y ∙ none_after n u h))))
        (λ t. or-by (in_runs before u) (in_run u (a, e) || false) t
        (λ x. and_both (s u) (leb u i) (member s p u ∙ or-first (in_runs before u) (in_run u (a, b) || in_runs after u) x) (le-leb u i (omega (arith, (before-out n u x).0))))
        (λ x. or-by (in_run u (a, e)) false x
        (λ y. let r = run_in_lem u a e y in and_both (s u) (leb u i)
        (member s p u ∙ or-second (in_runs before u) (in_run u (a, b) || in_runs after u) (or-first (in_run u (a, b)) (in_runs after u) (in-run u a b r.0 (omega (arith, r.1)))))
        (le-leb u i (omega (arith, r.1))))
        (λ y. clash (sym y))))

    cut-text : (s : ℕ → Bool) → parsed l ≡ accepted s → text_of (cut_at i s) ≡ lead before ++ write_run (a, e)
    cut-text s p =
        text-swap (cut_at i s) before (a, e) [] (asc-swap 0 before ((a, b) ∷ after) ((a, e) ∷ []) (λ m x. (x.0, ae, omega (arith, x.2), tt)) n.here.asc) (cut-same s p)
        ∙ ap (λ (t : Bytes). lead before ++ t) (run_end 0 (a, e) (bounds.0, ae, omega (arith, bounds.2), tt))

  is-text : l ≡ (lead before ++ write_run (a, b)) ++ tail_text after
  is-text = split-place n.here ∙ ap (λ (t : Bytes). lead before ++ t) (text-cons 0 (a, b) after (from_place n.here)) ∙ sym (append_assoc (lead before) (write_run (a, b)) (tail_text after))

  -- the run a to b without its end
  is-long : (a ≡ b → ⊥) → l ≡ (lead before ++ decimal a) ++ (45 ∷ (decimal b ++ tail_text after))
  is-long z = is-text ∙ ap (λ (t : Bytes). (lead before ++ t) ++ tail_text after) (run_long a b z) ∙ simp append_assoc

  module _ {lo hi to : ℕ} (r : Reads (a, b) after l lo hi to) where
    -- no number stays
    pub cut-none : i < lo → Changes l (cut_at i) i 0 Nothing
    cut-none h =
        record {
          inside = omega arith;
          becomes = λ s e. ap text_of (fun_ext (λ u. not_so (s u && leb u i) (λ t. out s e u (and_left (s u) (leb u i) t) (leb-true u i (and_right (s u) (leb u i) t))))) ∙ text-none;
        }
      where
        out : (s : ℕ → Bool) → parsed l ≡ accepted s → (u : ℕ) → s u ≡ true → u ≤ i → ⊥
        out s e u t k =
            or-by (in_runs before u) (in_run u (a, b) || in_runs after u) (sym (member s e u) ∙ t) (λ x. let y = before-out n u x in omega (arith, r.first))
            (λ x. or-by (in_run u (a, b)) (in_runs after u) x (λ y. let z = run_in_lem u a b y in omega (arith, r.first)) (λ y. clash (sym y ∙ none_after n u k)))

    -- the run stays whole
    pub cut-whole : lo ≤ i → hi ≤ i → Changes l (cut_at i) i to Nothing
    cut-whole h k =
        record {
          inside = r.onward;
          becomes = λ s e. cut-text b bounds.1 (omega arith) (omega (arith, r.last)) (λ u x y. x) s e
              ∙ sym (append-nil (take to l) ∙ ap (take to) is-text ∙ take_at (lead before ++ write_run (a, b)) (tail_text after) to long);
        }
      where
        long : length (lead before ++ write_run (a, b)) ≡ to
        long = omega (arith, ap length is-text, length-append (lead before ++ write_run (a, b)) (tail_text after), length-drop to l, ap length r.tail, r.onward)

    -- or loses its end
    module _ (h : lo ≤ i) (k : i < hi) (d : ℕ) (q : d ≡ length (decimal lo)) where
      long : length (lead before ++ decimal a) ≡ at + d
      long = length-append (lead before) (decimal a) ∙ omega (arith, n.here.place, q ∙ ap (λ (m : ℕ). length (decimal m)) r.first)

      is : l ≡ (lead before ++ decimal a) ++ (45 ∷ (decimal b ++ tail_text after))
      is = is-long (λ z. omega (arith, r.first, r.last))

      kept : take (at + d) l ≡ lead before ++ decimal a
      kept = ap (take (at + d)) is ∙ take_at (lead before ++ decimal a) (45 ∷ (decimal b ++ tail_text after)) (at + d) long

      in-text : at + d ≤ length l
      in-text = omega (arith, ap length is, length-append (lead before ++ decimal a) (45 ∷ (decimal b ++ tail_text after)), long)

      pub cut-first : lo ≡ i → Changes l (cut_at i) i (at + d) Nothing
      cut-first z =
          record {
            inside = in-text;
            becomes = λ s e. cut-text a (omega arith) bounds.1 (omega (arith, r.first)) (λ u x y. omega (arith, r.first)) s e
                ∙ ap (λ (t : Bytes). lead before ++ t) (run-same a a refl) ∙ sym (append-nil (take (at + d) l) ∙ kept);
          }

      pub cut_inside : (lo ≡ i → ⊥) → Changes l (cut_at i) i (at + d) Dashed
      cut_inside z =
          record {
            inside = in-text;
            becomes = λ s e. cut-text i (omega (arith, r.first)) (omega (arith, r.last)) (omega arith) (λ u x y. y) s e
                ∙ ap (λ (t : Bytes). lead before ++ t) (run_long a i (λ y. z (r.first ∙ y)))
                ∙ shift ∙ ap (λ (t : Bytes). t ++ 45 ∷ decimal i) (sym kept);
          }
        where
          shift : lead before ++ ((decimal a ++ 45 ∷ []) ++ decimal i) ≡ (lead before ++ decimal a) ++ (45 ∷ decimal i)
          shift = simp append_assoc

    pub cut_low : (1 ≤ lo) × (lo < 1000)
    cut_low = (omega (arith, bounds.0, r.first), omega (arith, bounds.1, bounds.2, r.first))
