-- The order of names, as byte strings with a prefix first: it is strict and total.
use Rattle.std.specs.Prelude.{ℕ, ◌≤◌, ◌≡◌, refl, true, false, [], ◌∷◌, eqb, ltb}
use Rattle.std.proofs.Common.{ap₂, sym, ◌∙◌, arith, eq-eqb, ne_eqb, eqb-true, ltb-true, ltb-false, lt-ltb, le-ltb}
use Rattle.std.proofs.lemmas.Bool.{eqb-false}
use Rattle.xml.specs.Bytes.{Bytes}
use Rattle.xml.specs.Tags.{less}
use Rattle.xml.specs.Truth.{by-test, clash, not_so}

-- ---- the first bytes decide, or where they are equal the rest
pub less-more : (a b : ℕ) (s t : Bytes) → a ≡ b → less (a ∷ s) (b ∷ t) ≡ less s t
unfolding less
less-more a b s t e = rw (le-ltb a b (omega arith), eq-eqb a b e)

pub less_other : (a b : ℕ) (s t : Bytes) → (a ≡ b → ⊥) → less (a ∷ s) (b ∷ t) ≡ ltb a b
unfolding less
less_other a b s t n = rw (ne_eqb a b n) (by-test (ltb a b) (λ e. rw e) (λ e. rw e))

pub less-nil : (s : Bytes) → less s [] ≡ false
unfolding less
less-nil [] = refl
less-nil (a ∷ s) = refl

less-le : (a b : ℕ) (s t : Bytes) → less (a ∷ s) (b ∷ t) ≡ true → a ≤ b
less-le a b s t e =
    by-test (eqb a b) (λ x. omega (arith, eqb-true a b x)) (λ x. omega (arith, ltb-true a b (sym (less_other a b s t (eqb-false a b x)) ∙ e)))

-- ---- a strict order
pub less-self : (s : Bytes) → less s s ≡ false
less-self [] = less-nil []
less-self (a ∷ s) = less-more a a s s refl ∙ less-self s

pub less-trans : (s t u : Bytes) → less s t ≡ true → less t u ≡ true → less s u ≡ true
unfolding less
less-trans s t [] p q = clash (sym q ∙ less-nil t)
less-trans s [] (c ∷ u) p q = clash (sym p ∙ less-nil s)
less-trans [] (b ∷ t) (c ∷ u) p q = refl
less-trans (a ∷ s) (b ∷ t) (c ∷ u) p q =
    let l = less-le a b s t p in
    let m = less-le b c t u q in
    by-test (eqb a c)
    (λ x.
    let e = eqb-true a c x in
    less-more a c s u e ∙ less-trans s t u (sym (less-more a b s t (omega arith)) ∙ p) (sym (less-more b c t u (omega arith)) ∙ q))
    (λ x. let n = eqb-false a c x in less_other a c s u n ∙ lt-ltb a c (omega arith))

pub less-asym : (s t : Bytes) → less s t ≡ true → less t s ≡ false
less-asym s t e = not_so (less t s) (λ h. clash (sym (less-trans s t s e h) ∙ less-self s))

-- names of which neither comes before the other are one
pub less-total : (s t : Bytes) → less s t ≡ false → less t s ≡ false → s ≡ t
unfolding less
less-total [] [] p q = refl
less-total [] (b ∷ t) p q = clash p
less-total (a ∷ s) [] p q = clash q
less-total (a ∷ s) (b ∷ t) p q =
    by-test (eqb a b)
    (λ x.
    let e = eqb-true a b x in
    ap₂ (λ y z. y ∷ z) e (less-total s t (sym (less-more a b s t e) ∙ p) (sym (less-more b a t s (sym e)) ∙ q)))
    (λ x.
    let n = eqb-false a b x in
    absurd (omega (arith, ltb-false a b (sym (less_other a b s t n) ∙ p), ltb-false b a (sym (less_other b a t s (λ y. n (sym y))) ∙ q))))
