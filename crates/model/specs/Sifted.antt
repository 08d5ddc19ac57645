-- What a reading keeps of siblings, and what holds of every content of groups: both are asked where trees have conditions of their own.
use Rattle.std.specs.Prelude.{ℕ, zero, suc, Bool, ◌||◌, get_or, replicate}
use Rattle.std.proofs.Math.Path.{◌≡◌, refl}
use Rattle.std.proofs.Common.{ap, sym, ◌∙◌, arith}
use mathlib.Core.List.{List, [], ◌∷◌}
use Rattle.std.proofs.Math.Bool.{true, false, or-false}
use Rattle.std.proofs.Math.Option.{Option, none, some}
use mathlib.Core.Ordering.{Ordering, lt, eq, gt}
use Rattle.model.specs.Gather.{All}
use Rattle.model.specs.Keyed.{Order, Tree, nil, node, is_some, grown, sift, slot, look}
use Rattle.model.specs.Groups.{Same, Groups, pick, at_g, hit, left, add_g}
use Rattle.model.specs.Stored.{or_l, mask_g}

-- a sibling that a reading keeps is found in what it keeps
module _ {L X Y : Type 0} (ord : Order L) (f : X → Option Y) where
  pub look-sift : (t : Tree L X) (q : L) {x : X} {y : Y} → look ord t (q ∷ []) ≡ some x → f x ≡ some y → look ord (sift f t) (q ∷ []) ≡ some y
  unfolding look sift
  look-sift nil q e g = let z : ◌≡◌ {A = ℕ} 0 1 = cc in absurd (omega arith)
  look-sift (node l x₀ k r) q {x} {y} e g = go (ord.cmp q l) refl e (λ e. look-sift r q e g)
    where
      kept : (o : Option Y) → ord.cmp q l ≡ gt → look ord (sift f r) (q ∷ []) ≡ some y → look ord (grown l o (sift f k) (sift f r)) (q ∷ []) ≡ some y
      kept none c i = i
      kept (some z) c i = rw c i

      go : (o : Ordering) → ord.cmp q l ≡ o → slot {L = L} o [] (some x₀) (look ord k []) (look ord r (q ∷ [])) ≡ some x
          → (look ord r (q ∷ []) ≡ some x → look ord (sift f r) (q ∷ []) ≡ some y) → look ord (grown l (f x₀) (sift f k) (sift f r)) (q ∷ []) ≡ some y
      go lt c e ih = let z : ◌≡◌ {A = ℕ} 0 1 = cc in absurd (omega arith)
      go eq c e ih = let d : x₀ ≡ x = cc in rw (ap f d ∙ g, c)
      go gt c e ih = kept (f x₀) c (ih e)

-- an element stands in version i just where its groups have a content there
get-or : (i : ℕ) (p q : List Bool) → get_or (or_l p q) i false ≡ (get_or p i false || get_or q i false)
unfolding or_l
get-or i [] q = refl
get-or zero (b ∷ p) [] = sym (or-false b)
get-or (suc i) (b ∷ p) [] = sym (or-false (get_or p i false))
get-or zero (b ∷ p) (c ∷ q) = refl
get-or (suc i) (b ∷ p) (c ∷ q) = get-or i p q

get-blank : (n i : ℕ) → get_or (replicate n false) i false ≡ false
get-blank zero i = refl
get-blank (suc n) zero = refl
get-blank (suc n) (suc i) = get-blank n i

pub mask_at_lem : {C : Type 0} (n i : ℕ) (gs : Groups C) → get_or (mask_g n gs) i false ≡ is_some (at_g i gs)
unfolding mask_g at_g
mask_at_lem n i [] = get-blank n i
mask_at_lem n i (g ∷ gs) = get-or i g.0 (mask_g n gs) ∙ ap (λ b. get_or g.0 i false || b) (mask_at_lem n i gs) ∙ go (get_or g.0 i false)
  where
    go : (b : Bool) → (b || is_some (at_g i gs)) ≡ is_some (pick b g.1 (at_g i gs))
    go true = refl
    go false = refl

abbrev pub Maybe : {C : Type 0} → (C → Type 0) → Option C → Type 0
Maybe P none = Unit {0}
Maybe P (some c) = P c

-- what holds of every content
module _ {C : Type 0} (P : C → Type 0) where
  pub all-add : (sm : Same C) (n : ℕ) (gs : Groups C) (o : Option C) → All (λ g. P g.1) gs → Maybe P o → All (λ g. P g.1) (add_g sm n gs o)
  unfolding add_g
  all-add sm n [] none x y = tt
  all-add sm n [] (some c) x y = (y, tt)
  all-add sm n (g ∷ gs) o x y = (x.0, all-add sm n gs (left sm (hit sm o g.1) o) x.1 (go (hit sm o g.1) o y))
    where
      go : (b : Bool) (o : Option C) → Maybe P o → Maybe P (left sm b o)
      go true o y = tt
      go false o y = y

  pub all-at : (i : ℕ) (gs : Groups C) → All (λ g. P g.1) gs → Maybe P (at_g i gs)
  unfolding at_g
  all-at i [] x = tt
  all-at i (g ∷ gs) x = go (get_or g.0 i false) (all-at i gs x.1)
    where
      go : (b : Bool) → Maybe P (at_g i gs) → Maybe P (pick b g.1 (at_g i gs))
      go true y = x.0
      go false y = y
