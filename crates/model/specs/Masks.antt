-- Facts of presence lists.
use Rattle.std.specs.Prelude.{ℕ, zero, suc, ◌<◌, ◌≤◌, ◌≡◌, refl, List, [], ◌∷◌, Bool, true, false, length, take, get_or, replicate, T}
use Rattle.std.proofs.Common.{ap, sym, ◌∙◌, add-one, arith, length-append, take_all, take-suc}
use Rattle.std.proofs.Math.ListN.{get_or-append}
use Rattle.std.proofs.lemmas.List.{take-append-le, get_or_at}
use Rattle.model.specs.Keyed.{any, ◌▷◌, Needs, Under}

module _ {X : Type 0} where
  pub length-▷ : (h : List X) (o : X) {n : ℕ} → length h ≡ n → length (h ▷ o) ≡ suc n
  length-▷ h o e = simp (length-append, e, add-one)

  -- what is there does not change by a later version; the last one is what was put there
  pub get-before : {n i : ℕ} → i < n → (h : List X) (o d : X) → length h ≡ n → get_or (h ▷ o) i d ≡ get_or h i d
  get-before {n} {i} b h o d e = get_or-append h (o ∷ []) d i (omega arith)

  pub get-last : {n : ℕ} (h : List X) (o d : X) → length h ≡ n → get_or (h ▷ o) n d ≡ o
  get-last {n} h o d e = get_or_at h o [] d n e

  pub take-▷ : {n i : ℕ} → i ≤ n → (h : List X) (o : X) → length h ≡ n → take i (h ▷ o) ≡ take i h
  take-▷ {n} {i} b h o e = take-append-le i h (o ∷ []) (omega arith)

  -- n + 1 of them are n and one more
  pub last : (h : List X) (d : X) {n : ℕ} → length h ≡ suc n → h ≡ take n h ▷ get_or h n d
  last h d {n} e = sym (take_all (suc n) h (omega arith)) ∙ take-suc h n d (omega arith)

pub is_true : (b : Bool) → T b → b ≡ true
is_true true t = refl
is_true false t = absurd t

pub true-is : {b : Bool} → b ≡ true → T b
true-is e = rw e tt

pub clash : {b : Bool} → b ≡ true → b ≡ false → ⊥
clash p q = let z : ◌≡◌ {A = ℕ} 0 1 = cc in omega arith

pub any-blank : (n i : ℕ) → any (take i (replicate n false)) ≡ false
unfolding any
any-blank zero zero = refl
any-blank zero (suc i) = refl
any-blank (suc n) zero = refl
any-blank (suc n) (suc i) = any-blank n i

pub unseen : (p : List Bool) → any p ≡ false → p ≡ replicate (length p) false
unfolding any
unseen [] e = refl
unseen (false ∷ p) e = ap (λ t. false ∷ t) (unseen p e)
unseen (true ∷ p) e = absurd (clash refl e)

pub any_false : (p : List Bool) → any (p ▷ false) ≡ any p
unfolding any
any_false [] = refl
any_false (false ∷ p) = any_false p
any_false (true ∷ p) = refl

pub any-true : (p : List Bool) → any (p ▷ true) ≡ true
unfolding any
any-true [] = refl
any-true (false ∷ p) = any-true p
any-true (true ∷ p) = refl

pub any-▷ : (p : List Bool) (b : Bool) → T (any p) → T (any (p ▷ b))
any-▷ p true t = rw (any-true p) tt
any-▷ p false t = rw (any_false p) t

-- absence
pub needs-false : (b : Bool) → Needs b false
needs-false true = tt
needs-false false = tt

pub under-▷ : (p q : List Bool) (b c : Bool) → Under p q → Needs b c → Under (p ▷ b) (q ▷ c)
unfolding Under
under-▷ [] [] b c u a = (a, tt)
under-▷ [] (y ∷ q) b c u a = absurd u
under-▷ (x ∷ p) [] b c u a = absurd u
under-▷ (x ∷ p) (y ∷ q) b c u a = (u.0, under-▷ p q b c u.1 a)

pub under-blank : (p : List Bool) {n : ℕ} → length p ≡ n → Under p (replicate n false)
unfolding Under
under-blank [] {n = zero} e = tt
under-blank [] {n = suc n} e = absurd (omega arith)
under-blank (b ∷ p) {n = zero} e = absurd (omega arith)
under-blank (b ∷ p) {n = suc n} e = (needs-false b, under-blank p {n = n} (omega arith))

pub under-take : (i : ℕ) (p q : List Bool) → Under p q → Under (take i p) (take i q)
unfolding Under
under-take zero p q u = tt
under-take (suc i) [] [] u = tt
under-take (suc i) [] (c ∷ q) u = absurd u
under-take (suc i) (b ∷ p) [] u = absurd u
under-take (suc i) (b ∷ p) (c ∷ q) u = (u.0, under-take i p q u.1)

pub under-any : (p q : List Bool) → Under p q → any p ≡ false → any q ≡ false
unfolding Under any
under-any [] [] u e = refl
under-any [] (c ∷ q) u e = absurd u
under-any (b ∷ p) [] u e = absurd u
under-any (false ∷ p) (false ∷ q) u e = under-any p q u.1 e
under-any (false ∷ p) (true ∷ q) u e = absurd u.0
under-any (true ∷ p) (c ∷ q) u e = absurd (clash refl e)

pub under-get : (i : ℕ) (p q : List Bool) → Under p q → get_or p i false ≡ false → get_or q i false ≡ false
unfolding Under
under-get i [] [] u e = refl
under-get i [] (c ∷ q) u e = absurd u
under-get i (b ∷ p) [] u e = absurd u
under-get zero (false ∷ p) (false ∷ q) u e = refl
under-get zero (false ∷ p) (true ∷ q) u e = absurd u.0
under-get zero (true ∷ p) (c ∷ q) u e = absurd (clash refl e)
under-get (suc i) (b ∷ p) (c ∷ q) u e = under-get i p q u.1 e
