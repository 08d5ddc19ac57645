-- Keyed trees, and the archive of several of them. Versions are counted from 0.
use Rattle.std.specs.Prelude.{ℕ, ◌≡◌, refl, List, [], ◌∷◌, ◌++◌, map, Bool, true, false, length, take, get_or, replicate, T}
use Rattle.std.proofs.Common.{ap, ◌∙◌}
use Rattle.std.proofs.Math.Option.{Option, none, some}
use mathlib.Core.Ordering.{Ordering, lt, eq, gt, lt≢gt, gt≢lt}

infixl 65 ◌▷◌
-- a strict total order on labels, as a comparison
abbrev pub turned : Ordering → Ordering
turned lt = gt
turned eq = eq
turned gt = lt

pub record Order (L : Type 0) : Type 0 where
  pub cmp : L → L → Ordering
  pub turn : (a b : L) → cmp b a ≡ turned (cmp a b)
  pub same : {a b : L} → cmp a b ≡ eq → a ≡ b
  pub trans : {a b c : L} → cmp a b ≡ lt → cmp b c ≡ lt → cmp a c ≡ lt

module _ {L : Type 0} (ord : Order L) where
  pub flip : {a b : L} → ord.cmp a b ≡ lt → ord.cmp b a ≡ gt
  flip {a} {b} e = ord.turn a b ∙ ap turned e

  pub flop : {a b : L} → ord.cmp a b ≡ gt → ord.cmp b a ≡ lt
  flop {a} {b} e = ord.turn a b ∙ ap turned e

  pub self : (a : L) → ord.cmp a a ≡ eq
  self a = go (ord.cmp a a) (ord.turn a a)
    where
      go : (o : Ordering) → o ≡ turned o → o ≡ eq
      go lt e = absurd (lt≢gt e)
      go eq e = refl
      go gt e = absurd (gt≢lt e)

-- siblings: a labelled element with what it holds, its children, and the siblings after it
pub data Tree (L X : Type 0) : Type 0 where
  nil : Tree L X
  node : L → X → Tree L X → Tree L X → Tree L X

-- what an element held in each version, oldest first: `none` where the version lacks it
abbrev pub Past : Type 0 → Type 0
Past C = List (Option C)

abbrev pub is_some {ℓ} : {X : Type ℓ} → Option X → Bool
is_some none = false
is_some (some x) = true

-- in which versions something stands, as a list of answers: in one at least?
unfoldable pub any : List Bool → Bool
any [] = false
any (true ∷ p) = true
any (false ∷ p) = any p

abbrev pub mask : {C : Type 0} → Past C → List Bool
mask h = map is_some h

-- one version more
abbrev pub ◌▷◌ : {X : Type 0} → List X → X → List X
h ▷ o = h ++ (o ∷ [])

abbrev pub blank : {C : Type 0} → ℕ → Past C
blank n = replicate n none

abbrev pub debut : {C : Type 0} → ℕ → C → Past C
debut n c = blank n ▷ some c

-- keep the elements for which there is an answer
abbrev pub grown : {L Y : Type 0} → L → Option Y → Tree L Y → Tree L Y → Tree L Y
grown l none k r = r
grown l (some y) k r = node l y k r

unfoldable pub sift : {L X Y : Type 0} → (X → Option Y) → Tree L X → Tree L Y
sift f nil = nil
sift f (node l x k r) = grown l (f x) (sift f k) (sift f r)

abbrev pub at : {C : Type 0} → ℕ → Past C → Option C
at i h = get_or h i none

abbrev pub keep_if : {E : Type 0} → Bool → E → Option E
keep_if true h = some h
keep_if false h = none

abbrev pub trim : {C : Type 0} → ℕ → Past C → Option (Past C)
trim i h = keep_if (any (mask (take i h))) (take i h)

-- version i, and the archive of the first i versions
abbrev pub version : {L C : Type 0} → ℕ → Tree L (Past C) → Tree L C
version i a = sift (at i) a

abbrev pub cut : {L C : Type 0} → ℕ → Tree L (Past C) → Tree L (Past C)
cut i a = sift (trim i) a

abbrev pub three : {X : Type 0} → Ordering → X → X → X → X
three lt x y z = x
three eq x y z = y
three gt x y z = z

-- the rest of an address at an element: nothing before it, itself or one below it, or one after it
abbrev pub here : {L X : Type 0} → List L → Option X → Option X → Option X
here [] x below = x
here (q ∷ qs) x below = below

abbrev pub slot : {L X : Type 0} → Ordering → List L → Option X → Option X → Option X → Option X
slot o qs x below after = three o none (here qs x below) after

module _ {L C E : Type 0} (ord : Order L) (new : C → E) (add : E → Option C → E) where
  -- nested merge of an archive and one version more, over what an entry is: `new` makes one that begins now, `add` adds to one what
  -- the version has of it. `graft` walks the version's siblings up to the archive's next one.
  unfoldable pub fresh : Tree L C → Tree L E
  fresh nil = nil
  fresh (node l c k r) = node l (new c) (fresh k) (fresh r)

  unfoldable pub graft : L → E → (Tree L C → Tree L E) → (Tree L C → Tree L E) → Tree L C → Tree L E
  graft l h kids rest nil = node l (add h none) (kids nil) (rest nil)
  graft l h kids rest (node l' c k r) = three (ord.cmp l l')
      (node l (add h none) (kids nil) (rest (node l' c k r)))
      (node l (add h (some c)) (kids k) (rest r))
      (node l' (new c) (fresh k) (graft l h kids rest r))

  unfoldable pub merge_by : Tree L E → Tree L C → Tree L E
  merge_by nil = fresh
  merge_by (node l h k r) = graft l h (merge_by k) (merge_by r)

module _ {L : Type 0} (ord : Order L) where
  -- of an archive of n versions whose entries are pasts
  abbrev pub merge : {C : Type 0} → ℕ → Tree L (Past C) → Tree L C → Tree L (Past C)
  merge n = merge_by ord (debut n) ◌▷◌

  -- what stands at an address; siblings ascend, so the walk stops at the first label past the one it looks for
  unfoldable pub look : {X : Type 0} → Tree L X → List L → Option X
  look nil qs = none
  look (node l x k r) [] = none
  look (node l x k r) (q ∷ qs) = slot (ord.cmp q l) qs (some x) (look k qs) (look r (q ∷ qs))

  unfoldable pub holds : {C : Type 0} → List L → Tree L C → Bool
  holds qs v = is_some (look v qs)

  -- the label comes before the siblings; siblings ascend
  abbrev pub Before : {X : Type 0} → L → Tree L X → Type 0
  Before l nil = Unit {0}
  Before l (node l' x k r) = ord.cmp l l' ≡ lt

  unfoldable pub Ascending : {X : Type 0} → Tree L X → Type 0
  Ascending nil = Unit {0}
  Ascending (node l x k r) = Before l r × Ascending k × Ascending r

-- the presence of the element at an address in n versions
abbrev pub presence : {E : Type 0} → (E → List Bool) → ℕ → Option E → List Bool
presence mask_of n none = replicate n false
presence mask_of n (some h) = mask_of h

abbrev pub history : {L E : Type 0} → Order L → (E → List Bool) → ℕ → List L → Tree L E → List Bool
history ord mask_of n qs a = presence mask_of n (look ord a qs)

-- the second stands only where the first does
abbrev pub Needs : Bool → Bool → Type 0
Needs true c = Unit {0}
Needs false true = ⊥
Needs false false = Unit {0}

unfoldable pub Under : List Bool → List Bool → Type 0
Under [] [] = Unit {0}
Under [] (c ∷ q) = ⊥
Under (b ∷ p) [] = ⊥
Under (b ∷ p) (c ∷ q) = Needs b c × Under p q

unfoldable pub Roof : {L E : Type 0} → (E → List Bool) → List Bool → Tree L E → Type 0
Roof mask_of p nil = Unit {0}
Roof mask_of p (node l h k r) = Under p (mask_of h) × Roof mask_of p r

-- an archive, over what an entry is: siblings ascend, each entry is formed and stands in one version at least, and only where its parent stands
unfoldable pub WFBy : {L E : Type 0} → Order L → (E → Type 0) → (E → List Bool) → Tree L E → Type 0
WFBy ord Formed mask_of nil = Unit {0}
WFBy ord Formed mask_of (node l h k r) =
    Formed h × T (any (mask_of h)) × Before ord l r × Roof mask_of (mask_of h) k × WFBy ord Formed mask_of k × WFBy ord Formed mask_of r

abbrev pub WF : {L C : Type 0} → Order L → ℕ → Tree L (Past C) → Type 0
WF ord n = WFBy ord (λ h. length h ≡ n) mask
