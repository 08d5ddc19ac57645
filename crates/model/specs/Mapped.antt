-- Trees whose entries are written in another way.
use Rattle.std.specs.Prelude.{◌≡◌, Bool}
use Rattle.std.proofs.Math.Path.{refl}
use Rattle.std.proofs.Common.{ap₂}
use mathlib.Core.List.{List, [], ◌∷◌}
use Rattle.std.proofs.Math.Option.{Option, none, some, map}
use mathlib.Core.Ordering.{Ordering, lt, eq, gt}
use Rattle.model.specs.Keyed.{Order, Tree, nil, node, grown, sift, slot, look, Roof, Before, WFBy}
use Rattle.model.specs.Merged.{Zip, done, old, new, both}

unfoldable pub map_t : {L E F : Type 0} → (E → F) → Tree L E → Tree L F
map_t f nil = nil
map_t f (node l h k r) = node l (f h) (map_t f k) (map_t f r)

pub map-sift : {L X E F : Type 0} (p : E → F) (q : X → Option E) (a : Tree L X) → map_t p (sift q a) ≡ sift (λ h. map p (q h)) a
unfolding map_t sift
map-sift p q nil = refl
map-sift {L} {X} {E} p q (node l h k r) = go (q h) (map-sift p q k) (map-sift p q r)
  where
    go : (o : Option E) → map_t p (sift q k) ≡ sift (λ h. map p (q h)) k → map_t p (sift q r) ≡ sift (λ h. map p (q h)) r
        → map_t p (grown l o (sift q k) (sift q r)) ≡ grown l (map p o) (sift (λ h. map p (q h)) k) (sift (λ h. map p (q h)) r)
    go none i j = j
    go (some e) i j = ap₂ (λ x y. node l (p e) x y) i j

pub sift-map : {L E F Y : Type 0} (f : E → F) (q : F → Option Y) (a : Tree L E) → sift q (map_t f a) ≡ sift (λ h. q (f h)) a
unfolding map_t sift
sift-map f q nil = refl
sift-map f q (node l h k r) = ap₂ (grown l (q (f h))) (sift-map f q k) (sift-map f q r)

-- of a tree whose entries are formed
module _ {L E : Type 0} (ord : Order L) (Formed : E → Type 0) (mask_e : E → List Bool) where
  abbrev W : Tree L E → Type 0
  W = WFBy ord Formed mask_e

  pub sift-cong : {Y : Type 0} (f g : E → Option Y) → ((h : E) → Formed h → f h ≡ g h) → (a : Tree L E) → W a → sift f a ≡ sift g a
  unfolding sift WFBy
  sift-cong f g e nil w = refl
  sift-cong f g e (node l h k r) w = rw (e h w.0, sift-cong f g e k w.4, sift-cong f g e r w.5)

  abbrev pub Formed? : Option E → Type 0
  Formed? none = Unit {0}
  Formed? (some h) = Formed h

  pub look-formed : (a : Tree L E) → W a → (qs : List L) → Formed? (look ord a qs)
  unfolding look WFBy
  look-formed nil w qs = tt
  look-formed (node l h k r) w [] = tt
  look-formed (node l h k r) w (q ∷ qs) = go (ord.cmp q l) qs (look-formed k w.4 qs) (look-formed r w.5 (q ∷ qs))
    where
      go : (o : Ordering) (qs : List L) → Formed? (look ord k qs) → Formed? (look ord r (q ∷ qs)) → Formed? (slot o qs (some h) (look ord k qs) (look ord r (q ∷ qs)))
      go lt qs i j = tt
      go eq [] i j = w.0
      go eq (x ∷ qs) i j = i
      go gt qs i j = j

  module _ {F : Type 0} (f : E → F) where
    before-map : (l : L) (a : Tree L E) → Before ord l a → Before ord l (map_t f a)
    unfolding map_t
    before-map l nil b = tt
    before-map l (node l' h k r) b = b

    pub map_back : (g : F → E) → ((h : E) → Formed h → g (f h) ≡ h) → (a : Tree L E) → W a → map_t g (map_t f a) ≡ a
    unfolding map_t WFBy
    map_back g e nil w = refl
    map_back g e (node l h k r) w = rw (e h w.0, map_back g e k w.4, map_back g e r w.5)

    -- another form of the entries with the same presence
    module _ (FormedF : F → Type 0) (mask_f : F → List Bool) (same : (h : E) → Formed h → FormedF (f h) × (mask_f (f h) ≡ mask_e h)) where
      roof-map : (p : List Bool) (a : Tree L E) → W a → Roof mask_e p a → Roof mask_f p (map_t f a)
      unfolding map_t WFBy Roof
      roof-map p nil w x = tt
      roof-map p (node l h k r) w x = (rw (same h w.0).1 x.0, roof-map p r w.5 x.1)

      pub WF-map : (a : Tree L E) → W a → WFBy ord FormedF mask_f (map_t f a)
      unfolding map_t WFBy
      WF-map nil w = tt
      WF-map (node l h k r) w = let e = same h w.0 in
          (e.0, rw e.1 w.1, before-map l r w.2, rw e.1 (roof-map (mask_e h) k w.4 w.3), WF-map k w.4, WF-map r w.5)

    -- another way to make and to add entries
    module _ {C : Type 0} (make : C → E) (add : E → Option C → E) (make_f : C → F) (add_f : F → Option C → F)
        (on-make : (c : C) → f (make c) ≡ make_f c) (on-add : (h : E) (o : Option C) → Formed h → f (add h o) ≡ add_f (f h) o) where
      pub zip-map : {a m : Tree L E} {v : Tree L C} → Zip ord make add a v m → W a → Zip ord make_f add_f (map_t f a) v (map_t f m)
      unfolding map_t WFBy
      zip-map done w = done
      zip-map (old {h = h} b p q) w = rw (on-add h none w.0) (old b (zip-map p w.4) (zip-map q w.5))
      zip-map (new {l = l} {c = c} {a = a} b p q) w = rw (on-make c) (new (before-map l a b) (zip-map p tt) (zip-map q w))
      zip-map (both {h = h} {c = c} p q) w = rw (on-add h (some c) w.0) (both (zip-map p w.4) (zip-map q w.5))

module _ {L E F : Type 0} (ord : Order L) (f : E → F) where
  pub look-map : (a : Tree L E) (qs : List L) → look ord (map_t f a) qs ≡ map f (look ord a qs)
  unfolding map_t look
  look-map nil qs = refl
  look-map (node l h k r) [] = refl
  look-map (node l h k r) (q ∷ qs) = go (ord.cmp q l) qs (look-map k qs) (look-map r (q ∷ qs))
    where
      go : (o : Ordering) (qs : List L) → look ord (map_t f k) qs ≡ map f (look ord k qs) → look ord (map_t f r) (q ∷ qs) ≡ map f (look ord r (q ∷ qs))
          → slot o qs (some (f h)) (look ord (map_t f k) qs) (look ord (map_t f r) (q ∷ qs)) ≡ map f (slot o qs (some h) (look ord k qs) (look ord r (q ∷ qs)))
      go lt qs i j = refl
      go eq [] i j = refl
      go eq (x ∷ qs) i j = i
      go gt qs i j = j
