-- What stands at an address after a merge (T3).
use Rattle.std.specs.Prelude.{ℕ, ◌≡◌}
use Rattle.std.proofs.Math.Path.{refl, ap, ap₂, sym}
use Rattle.std.proofs.Common.{◌∙◌}
use mathlib.Core.List.{List, [], ◌∷◌}
use Rattle.std.proofs.Math.Option.{Option, none, some}
use mathlib.Core.Ordering.{Ordering, lt, eq, gt}
use Rattle.model.specs.Keyed.{Order, Tree, nil, node, Past, ◌▷◌, debut, slot, look, Before}
use Rattle.model.specs.Merged.{Zip, Merge, done, old, new, both}

-- the entry at an address, and what one version more says of it
abbrev pub push_by : {C E : Type 0} → (C → E) → (E → Option C → E) → Option E → Option C → Option E
push_by make add none none = none
push_by make add none (some c) = some (make c)
push_by make add (some h) o = some (add h o)

abbrev pub push : {C : Type 0} → ℕ → Option (Past C) → Option C → Option (Past C)
push n = push_by (debut n) ◌▷◌

module _ {L : Type 0} (ord : Order L) where
  pub look-nil : {X : Type 0} (t : Tree L X) → look ord t [] ≡ none
  unfolding look
  look-nil nil = refl
  look-nil (node l x k r) = refl

  pub look-before : {X : Type 0} (t : Tree L X) (q : L) (qs : List L) → Before ord q t → look ord t (q ∷ qs) ≡ none
  unfolding look
  look-before nil q qs b = refl
  look-before (node l x k r) q qs b = rw b

  pub before-trans : {X : Type 0} {q l : L} (t : Tree L X) → ord.cmp q l ≡ lt → Before ord l t → Before ord q t
  before-trans nil e b = tt
  before-trans (node l' x k r) e b = ord.trans e b

  -- an element that siblings lack, between which it would stand
  slot-absent : {X : Type 0} (t : Tree L X) (l q : L) (qs : List L) (o : Ordering) → ord.cmp q l ≡ o → Before ord l t → look ord t (q ∷ qs) ≡ slot o qs none none (look ord t (q ∷ qs))
  slot-absent t l q qs lt e b = look-before t q qs (before-trans t e b)
  slot-absent t l q [] eq e b = look-before t q [] (rw (ord.same e) b)
  slot-absent t l q (x ∷ qs) eq e b = look-before t q (x ∷ qs) (rw (ord.same e) b)
  slot-absent t l q qs gt e b = refl

module _ {C E : Type 0} (make : C → E) (add : E → Option C → E) where
  push-slot : {L : Type 0} (o : Ordering) (qs : List L) (x b a : Option E) (y c d : Option C)
      → push_by make add (slot o qs x b a) (slot o qs y c d) ≡ slot o qs (push_by make add x y) (push_by make add b c) (push_by make add a d)
  push-slot lt qs x b a y c d = refl
  push-slot eq [] x b a y c d = refl
  push-slot eq (q ∷ qs) x b a y c d = refl
  push-slot gt qs x b a y c d = refl

  pub look-zip : {L : Type 0} (ord : Order L) {a m : Tree L E} {v : Tree L C} → Zip ord make add a v m → (qs : List L) → look ord m qs ≡ push_by make add (look ord a qs) (look ord v qs)
  unfolding look
  look-zip ord done qs = refl
  look-zip ord (old {v = v} b p q) [] = rw (look-nil ord v)
  look-zip ord (old {l = l} {h = h} {k = k} {r = r} {v = v} b p q) (x ∷ qs) =
      ap₂ (slot (ord.cmp x l) qs (some (add h none))) (look-zip ord p qs) (look-zip ord q (x ∷ qs))
      ∙ sym (push-slot (ord.cmp x l) qs (some h) (look ord k qs) (look ord r (x ∷ qs)) none none (look ord v (x ∷ qs)))
      ∙ ap (push_by make add (look ord (node l h k r) (x ∷ qs))) (sym (slot-absent ord v l x qs (ord.cmp x l) refl b))
  look-zip ord (new {a = a} b p q) [] = rw (look-nil ord a)
  look-zip ord (new {l = l} {c = c} {k = k} {r = r} {a = a} b p q) (x ∷ qs) =
      ap₂ (slot (ord.cmp x l) qs (some (make c))) (look-zip ord p qs) (look-zip ord q (x ∷ qs))
      ∙ sym (push-slot (ord.cmp x l) qs none none (look ord a (x ∷ qs)) (some c) (look ord k qs) (look ord r (x ∷ qs)))
      ∙ ap (λ t. push_by make add t (look ord (node l c k r) (x ∷ qs))) (sym (slot-absent ord a l x qs (ord.cmp x l) refl b))
  look-zip ord (both p q) [] = refl
  look-zip ord (both {l = l} {h = h} {c = c} {k = k} {r = r} {k' = k'} {r' = r'} p q) (x ∷ qs) =
      ap₂ (slot (ord.cmp x l) qs (some (add h (some c)))) (look-zip ord p qs) (look-zip ord q (x ∷ qs))
      ∙ sym (push-slot (ord.cmp x l) qs (some h) (look ord k qs) (look ord r (x ∷ qs)) (some c) (look ord k' qs) (look ord r' (x ∷ qs)))

module _ {L C : Type 0} (ord : Order L) (n : ℕ) where
  pub look-merge : {a m : Tree L (Past C)} {v : Tree L C} → Merge ord n a v m → (qs : List L) → look ord m qs ≡ push n (look ord a qs) (look ord v qs)
  look-merge = look-zip (debut n) ◌▷◌ ord
