-- How an archive stores a past: each content once, with the versions that have it, in the order of their first versions.
use Rattle.std.specs.Prelude.{ℕ, zero, suc, ◌≡◌, refl, List, [], ◌∷◌, Bool, true, false, not, ◌&&◌, length, take, get_or, replicate, T}
use Rattle.std.proofs.Math.Option.{Option, none, some}
use Rattle.std.proofs.Common.{arith}
use Rattle.model.specs.Keyed.{any, ◌▷◌}
use Rattle.model.specs.Masks.{clash}

-- a test of equality
pub record Same (C : Type 0) : Type 0 where
  pub test : C → C → Bool
  pub self : (c : C) → test c c ≡ true
  pub same : {c d : C} → test c d ≡ true → c ≡ d

abbrev pub Groups : Type 0 → Type 0
Groups C = List (List Bool × C)

abbrev pub pick : {C : Type 0} → Bool → C → Option C → Option C
pick true c o = some c
pick false c o = o

unfoldable pub at_g : {C : Type 0} → ℕ → Groups C → Option C
at_g i [] = none
at_g i (g ∷ gs) = pick (get_or g.0 i false) g.1 (at_g i gs)

abbrev pub cons_if : {X : Type 0} → Bool → X → List X → List X
cons_if true x xs = x ∷ xs
cons_if false x xs = xs

unfoldable pub cut_g : {C : Type 0} → ℕ → Groups C → Groups C
cut_g i [] = []
cut_g i (g ∷ gs) = cons_if (any (take i g.0)) (take i g.0, g.1) (cut_g i gs)

-- at one version at most; the first begins before the second
unfoldable pub Disjoint : List Bool → List Bool → Type 0
Disjoint [] q = Unit {0}
Disjoint (b ∷ p) [] = Unit {0}
Disjoint (b ∷ p) (c ∷ q) = T (not (b && c)) × Disjoint p q

abbrev pub Unless : Bool → Type 0 → Type 0
Unless true X = Unit {0}
Unless false X = X

unfoldable pub Earlier : List Bool → List Bool → Type 0
Earlier [] q = ⊥
Earlier (b ∷ p) [] = ⊥
Earlier (b ∷ p) (c ∷ q) = T (not c) × Unless b (Earlier p q)

module _ {C : Type 0} (sm : Same C) where
  abbrev pub hit : Option C → C → Bool
  hit none d = false
  hit (some c) d = sm.test c d

  abbrev pub left : Bool → Option C → Option C
  left true o = none
  left false o = o

  -- one version more: each group is told whether the content is its own, and a content that no group takes comes last
  unfoldable pub add_g : ℕ → Groups C → Option C → Groups C
  add_g n [] none = []
  add_g n [] (some c) = (replicate n false ▷ true, c) ∷ []
  add_g n (g ∷ gs) o = (g.0 ▷ hit o g.1, g.1) ∷ add_g n gs (left (hit o g.1) o)

  unfoldable pub Apart : List Bool → C → Groups C → Type 0
  Apart p d [] = Unit {0}
  Apart p d (g ∷ gs) = (sm.test g.1 d ≡ false) × Disjoint p g.0 × Earlier p g.0 × Apart p d gs

  unfoldable pub WFG : ℕ → Groups C → Type 0
  WFG n [] = Unit {0}
  WFG n (g ∷ gs) = (length g.0 ≡ n) × T (any g.0) × Apart g.0 g.1 gs × WFG n gs

pub disjoint-▷ : (p q : List Bool) (b c : Bool) → length p ≡ length q → Disjoint p q → T (not (b && c)) → Disjoint (p ▷ b) (q ▷ c)
unfolding Disjoint
disjoint-▷ [] [] b c e x y = (y, tt)
disjoint-▷ [] (d ∷ q) b c e x y = absurd (omega arith)
disjoint-▷ (d ∷ p) [] b c e x y = absurd (omega arith)
disjoint-▷ (a ∷ p) (d ∷ q) b c e x y = (x.0, disjoint-▷ p q b c (omega arith) x.1 y)

pub disjoint-blank : (p : List Bool) (n : ℕ) → Disjoint p (replicate n false)
unfolding Disjoint
disjoint-blank [] n = tt
disjoint-blank (b ∷ p) zero = tt
disjoint-blank (true ∷ p) (suc n) = (tt, disjoint-blank p n)
disjoint-blank (false ∷ p) (suc n) = (tt, disjoint-blank p n)

pub disjoint-take : (i : ℕ) (p q : List Bool) → Disjoint p q → Disjoint (take i p) (take i q)
unfolding Disjoint
disjoint-take zero p q x = tt
disjoint-take (suc i) [] q x = tt
disjoint-take (suc i) (b ∷ p) [] x = tt
disjoint-take (suc i) (b ∷ p) (c ∷ q) x = (x.0, disjoint-take i p q x.1)

pub disjoint-get : (i : ℕ) (p q : List Bool) → Disjoint p q → get_or p i false ≡ true → get_or q i false ≡ false
unfolding Disjoint
disjoint-get i [] q x e = absurd (clash e refl)
disjoint-get i (b ∷ p) [] x e = refl
disjoint-get zero (true ∷ p) (false ∷ q) x e = refl
disjoint-get zero (true ∷ p) (true ∷ q) x e = absurd x.0
disjoint-get zero (false ∷ p) (c ∷ q) x e = absurd (clash e refl)
disjoint-get (suc i) (b ∷ p) (c ∷ q) x e = disjoint-get i p q x.1 e

pub earlier-▷ : (p q : List Bool) (b c : Bool) → Earlier p q → Earlier (p ▷ b) (q ▷ c)
unfolding Earlier
earlier-▷ [] q b c x = absurd x
earlier-▷ (a ∷ p) [] b c x = absurd x
earlier-▷ (true ∷ p) (d ∷ q) b c x = x
earlier-▷ (false ∷ p) (d ∷ q) b c x = (x.0, earlier-▷ p q b c x.1)

-- whatever begins before version n begins before what begins there
pub earlier-blank : (p : List Bool) {n : ℕ} (b c : Bool) → length p ≡ n → T (any p) → Earlier (p ▷ b) (replicate n false ▷ c)
unfolding Earlier any
earlier-blank [] b c e t = absurd t
earlier-blank (a ∷ p) {n = zero} b c e t = absurd (omega arith)
earlier-blank (true ∷ p) {n = suc n} b c e t = (tt, tt)
earlier-blank (false ∷ p) {n = suc n} b c e t = (tt, earlier-blank p {n = n} b c (omega arith) t)

pub earlier-take : (i : ℕ) (p q : List Bool) → Earlier p q → T (any (take i q)) → Earlier (take i p) (take i q)
unfolding Earlier any
earlier-take zero p q x t = absurd t
earlier-take (suc i) [] q x t = absurd x
earlier-take (suc i) (b ∷ p) [] x t = absurd x
earlier-take (suc i) (b ∷ p) (true ∷ q) x t = absurd x.0
earlier-take (suc i) (true ∷ p) (false ∷ q) x t = (tt, tt)
earlier-take (suc i) (false ∷ p) (false ∷ q) x t = (tt, earlier-take i p q x.1 t)

-- what begins before another of n + 1 versions begins before the last of them
pub earlier-last : (n : ℕ) (p q : List Bool) → length q ≡ suc n → Earlier p q → T (any q) → T (any (take n p))
unfolding Earlier any
earlier-last n [] q e x t = absurd x
earlier-last n (b ∷ p) [] e x t = absurd x
earlier-last n (b ∷ p) (true ∷ q) e x t = absurd x.0
earlier-last zero (b ∷ p) (false ∷ []) e x t = absurd t
earlier-last zero (b ∷ p) (false ∷ c ∷ q) e x t = absurd (omega arith)
earlier-last (suc n) (true ∷ p) (false ∷ q) e x t = tt
earlier-last (suc n) (false ∷ p) (false ∷ q) e x t = earlier-last n p q (omega arith) x.1 t
