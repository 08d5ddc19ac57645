-- Facts of pasts.
use Rattle.std.specs.Prelude.{ℕ, zero, suc, ◌<◌, ◌≤◌, ◌≡◌, false, length, take, replicate}
use Rattle.std.proofs.Math.Path.{refl, ap}
use Rattle.std.proofs.Common.{sym, ◌∙◌, arith, take_all}
use mathlib.Core.List.{[], ◌∷◌, map-append}
use Rattle.std.proofs.Math.Option.{Option, none, some}
use Rattle.std.proofs.lemmas.List.{get_or-replicate}
use Rattle.std.proofs.Math.ListN.{get_or-map}
use Rattle.model.specs.Keyed.{Past, is_some, any, mask, ◌▷◌, blank, at, keep_if, trim, Under}
use Rattle.model.specs.Masks.{take-▷, clash, any-blank, under-take, under-any, under-get}

pub mask-blank : (C : Type 0) (n : ℕ) → mask (blank {C = C} n) ≡ replicate n false
mask-blank C zero = refl
mask-blank C (suc n) = ap (λ t. false ∷ t) (mask-blank C n)

module _ {C : Type 0} where
  pub mask-▷ : (h : Past C) (o : Option C) → mask (h ▷ o) ≡ mask h ▷ is_some o
  mask-▷ h o = map-append is_some h (o ∷ [])

  pub mask-take : (i : ℕ) (h : Past C) → mask (take i h) ≡ take i (mask h)
  mask-take zero h = refl
  mask-take (suc i) [] = refl
  mask-take (suc i) (o ∷ h) = ap (λ t. is_some o ∷ t) (mask-take i h)

  pub absent : (h : Past C) → any (mask h) ≡ false → h ≡ blank (length h)
  unfolding any
  absent [] e = refl
  absent (none ∷ h) e = ap (λ t. none ∷ t) (absent h e)
  absent (some c ∷ h) e = absurd (clash refl e)

  pub at-blank : {n i : ℕ} → i < n → at i (blank {C = C} n) ≡ none
  at-blank {n} {i} b = get_or-replicate n i none none b

  pub trim-before : {n i : ℕ} → i ≤ n → (h : Past C) (o : Option C) → length h ≡ n → trim i (h ▷ o) ≡ trim i h
  trim-before b h o e = ap (λ t. keep_if (any (mask t)) t) (take-▷ b h o e)

  pub trim-blank : (n i : ℕ) → trim i (blank {C = C} n) ≡ none
  trim-blank n i = rw (mask-take i (blank {C = C} n), mask-blank C n, any-blank n i)

  pub trim-all : (h : Past C) {n : ℕ} → length h ≡ n → trim n h ≡ keep_if (any (mask h)) h
  trim-all h {n} e = ap (λ t. keep_if (any (mask t)) t) (take_all n h (omega arith))

  -- what stands under something that is not there is not there
  pub under_at : (i : ℕ) (p h : Past C) → Under (mask p) (mask h) → at i p ≡ none → at i h ≡ none
  under_at i p h u e = go (at i h) (sym (get_or-map is_some h i none) ∙ under-get i (mask p) (mask h) u (get_or-map is_some p i none ∙ ap is_some e))
    where
      go : (o : Option C) → is_some o ≡ false → o ≡ none
      go none f = refl
      go (some c) f = absurd (clash refl f)

  pub under-trim : (i : ℕ) (p h : Past C) → Under (mask p) (mask h) → any (mask (take i p)) ≡ false → trim i h ≡ none
  under-trim i p h u e = rw (mask-take i h, under-any (take i (mask p)) (take i (mask h)) (under-take i (mask p) (mask h) u) (rw (mask-take i p) at e))
