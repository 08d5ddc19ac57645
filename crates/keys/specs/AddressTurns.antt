-- Laws of the loop that reads a step's conditions, one a return or turn.
use Rattle.std.specs.Prelude.{Option as Maybe, None, Some, ℕ, suc, ◌+◌, ◌<◌, ◌≤◌, ◌≡◌, refl, false, eqb, ltb, take, drop, set}
use Prim.Native.Char.{code}
use Rattle.std.proofs.Common.{add-one, sym, ◌∙◌, drop_of_length-le, drop-cons, take-suc-set, get_or-set_other}
use native.Mathlib.Omega.{arith}
use Rattle.std.proofs.Math.Path.{ap, subst}
use Rattle.std.proofs.Math.Option.{none, some}
use mathlib.Core.List.{List, [], ◌∷◌, ◌++◌, map, map-append}
use Rattle.std.proofs.Math.ListN.{length, get_or, get_or-eq_default}
use Rattle.std.proofs.Math.Seq.{get_or-set_same}
use borrow.Author.Tests.{ne_eqb, ltb-true, ltb-false, eqb-true, eqb-false}
use Rattle.xml.specs.Bytes.{Bytes, bytes}
use Rattle.xml.specs.Truth.{by-test}
use Rattle.keys.specs.AddressScan.{cut, condition, closed, conditions_from, conditions}
use Rattle.keys.specs.AddressParts.{end_of, piece, opener, Inside, ValueRead, ConditionsRead}

-- ---- the machine's step
from_step : (o k t : Bytes) (vs ks : List Bytes) {v r : Bytes} → condition o k t ≡ some (v, r) → conditions_from o vs (k ∷ ks) t ≡ conditions_from (bytes " and ") (vs ++ v ∷ []) ks r
unfolding conditions_from
from_step o k t vs ks e = rw (e, conditions_from)

from-none : (o k t : Bytes) (vs ks : List Bytes) → condition o k t ≡ none → conditions_from o vs (k ∷ ks) t ≡ none
unfolding conditions_from
from-none o k t vs ks e = rw (e, conditions_from)

-- the position of a value that is read
pub value-in : (o k s : Bytes) (at : ℕ) {v : ℕ} {x : Maybe ℕ} → ValueRead o k s at x → x ≡ Some v → ValueRead o k s at (Some v)
value-in o k s at r z = subst (λ (x : Maybe ℕ). ValueRead o k s at x) z r

-- ---- what holds where j conditions are read: the machine's answer from here is the whole one
pub record Going (ks : List Bytes) (s : Bytes) (at : ℕ) (values : List ℕ) (next j : ℕ) : Type 0 where
  pub answer : conditions ks (drop at s) ≡ conditions_from (opener j) (map (piece s) (take j values)) (drop j ks) (drop next s)
  pub inside : Inside s j values

module _ (s : Bytes) (at : ℕ) (values : List ℕ) where
  pub conditions-bare : (ks : List Bytes) → length ks ≡ 0 → at ≤ length s → ConditionsRead ks s at (Some (record { next = at; values = values }))
  unfolding conditions
  conditions-bare [] e l = record { right = refl; within = l; inside = λ j k. absurd (omega arith) }
  conditions-bare (k ∷ ks) e l = absurd (omega arith)

  pub going-starts : (ks : List Bytes) → (length ks ≡ 0 → ⊥) → Going ks s at values at 0
  unfolding conditions opener
  going-starts [] f = absurd (f refl)
  going-starts (k ∷ ks) f = record { answer = refl; inside = λ j h. absurd (omega arith) }

-- ---- the bracket behind them
bracket-in : (s : Bytes) (at : ℕ) → get_or s at 0 ≡ code "]" → at < length s
bracket-in s at e = by-test (ltb at (length s)) (ltb-true at (length s)) (λ t. let z = get_or-eq_default s 0 (ltb-false at (length s) t) in absurd (omega arith))

bracket-is : (s : Bytes) (at : ℕ) → get_or s at 0 ≡ code "]" → cut (bytes "]") (drop at s) ≡ some (drop (at + 1) s)
unfolding cut bytes
bracket-is s at e = rw (drop-cons s at 0 (bracket-in s at e), e, add-one at) refl

bracket-not : (s : Bytes) (at : ℕ) → (get_or s at 0 ≡ code "]" → ⊥) → cut (bytes "]") (drop at s) ≡ none
unfolding cut bytes
bracket-not s at f =
    by-test (ltb at (length s))
    (λ t. let h = ltb-true at (length s) t in ap (cut (bytes "]")) (drop-cons s at 0 h) ∙ off (get_or s at 0) (drop (suc at) s) (ne_eqb (code "]") (get_or s at 0) (λ q. f (sym q))))
    (λ t. ap (cut (bytes "]")) (drop_of_length-le s (ltb-false at (length s) t)))
  where
    off : (b : ℕ) (t : Bytes) → eqb (code "]") b ≡ false → cut (bytes "]") (b ∷ t) ≡ none
    off b t e = rw (e, cut) refl

module _ (ks : List Bytes) (s : Bytes) (at : ℕ) (values : List ℕ) (next j : ℕ) (g : Going ks s at values next j) where
  module _ (h : j < length ks) where
    here : conditions ks (drop at s) ≡ conditions_from (opener j) (map (piece s) (take j values)) (get_or ks j [] ∷ drop (suc j) ks) (drop next s)
    here = g.answer ∙ ap (λ z. conditions_from (opener j) (map (piece s) (take j values)) z (drop next s)) (drop-cons ks j [] h)

    pub going-wrong : {x : Maybe ℕ} → ValueRead (opener j) (get_or ks j []) s next x → x ≡ None → ConditionsRead ks s at None
    going-wrong r z = here ∙ from-none (opener j) (get_or ks j []) (drop next s) _ (drop (suc j) ks) (subst (λ (x : Maybe ℕ). ValueRead (opener j) (get_or ks j []) s next x) z r)

    pub going_more : (v : ℕ) → length values ≡ 4 → j < 4 → {x : Maybe ℕ} → ValueRead (opener j) (get_or ks j []) s next x → x ≡ Some v → Going ks s at (set values j v) (end_of v + 1) (j + 1)
    unfolding opener
    going_more v l b r z =
        let y : ValueRead (opener j) (get_or ks j []) s next (Some v) = value-in (opener j) (get_or ks j []) s next r z in
        let i : j < length values = omega arith in
        let a : map (piece s) (take (suc j) (set values j v)) ≡ map (piece s) (take j values) ++ piece s v ∷ [] =
        ap (map (piece s)) (take-suc-set values j v i) ∙ map-append (piece s) (take j values) (v ∷ [])
        in
        record {
          answer =
              here ∙ from_step (opener j) (get_or ks j []) (drop next s) (map (piece s) (take j values)) (drop (suc j) ks) y.0
              ∙ rw (add-one j) (ap (λ y. conditions_from (bytes " and ") y (drop (suc j) ks) (drop (end_of v + 1) s)) (sym a));
          inside = λ k m. by-test (eqb k j)
              (λ t. subst (λ (x : ℕ). end_of x ≤ length s) (sym (ap (λ x. get_or (set values j v) x 0) (eqb-true k j t) ∙ get_or-set_same values j v 0 i)) (omega (arith, y.1)))
              (λ t. subst (λ (x : ℕ). end_of x ≤ length s) (sym (get_or-set_other values j k v 0 (eqb-false k j t))) (g.inside k (let f = eqb-false k j t in omega arith)));
        }

  module _ (h : length ks ≡ j) where
    last : conditions ks (drop at s) ≡ closed (map (piece s) (take j values)) (cut (bytes "]") (drop next s))
    unfolding conditions_from
    last = g.answer ∙ ap (λ z. conditions_from (opener j) (map (piece s) (take j values)) z (drop next s)) (drop_of_length-le ks {i = j} (omega arith))

    pub going-open : (get_or s next 0 ≡ code "]" → ⊥) → ConditionsRead ks s at None
    unfolding closed
    going-open f = last ∙ ap (closed (map (piece s) (take j values))) (bracket-not s next f)

    pub going_done : get_or s next 0 ≡ code "]" → ConditionsRead ks s at (Some (record { next = next + 1; values = values }))
    unfolding closed
    going_done e = record {
      right = last ∙ ap (closed (map (piece s) (take j values))) (bracket-is s next e) ∙ rw h refl;
      within = omega (arith, bracket-in s next e);
      inside = subst (λ (c : ℕ). Inside s c values) (sym h) g.inside;
    }
