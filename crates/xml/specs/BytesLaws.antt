-- Equal bytes, equal forests: the tests decide equality.
use Rattle.std.specs.Prelude.{◌≡◌, Bool, true, ◌&&◌, eqb}
use Rattle.std.proofs.Math.Path.{refl, ap₂}
use Rattle.std.proofs.Common.{sym, eq-eqb, eqb-true}
use mathlib.Core.List.{List, [], ◌∷◌}
use Rattle.xml.specs.Bytes.{Bytes, same_by, same}
use Rattle.xml.specs.Truth.{clash, and_left, and_right, and_both}
use Rattle.xml.specs.Forest.{Forest, end, elem, text, stamp, same_forest}

-- equality of lists, by that of their elements
module _ {A : Type 0} (eq : A → A → Bool) where
  pub same_by-is : ((a b : A) → eq a b ≡ true → a ≡ b) → (s t : List A) → same_by eq s t ≡ true → s ≡ t
  unfolding same_by
  same_by-is h [] [] e = refl
  same_by-is h [] (y ∷ t) e = clash (sym e)
  same_by-is h (x ∷ s) [] e = clash (sym e)
  same_by-is h (x ∷ s) (y ∷ t) e = ap₂ (λ a b. a ∷ b) (h x y (and_left (eq x y) (same_by eq s t) e)) (same_by-is h s t (and_right (eq x y) (same_by eq s t) e))

  pub same_by-self : ((a : A) → eq a a ≡ true) → (s : List A) → same_by eq s s ≡ true
  unfolding same_by
  same_by-self h [] = refl
  same_by-self h (x ∷ s) = and_both (eq x x) (same_by eq s s) (h x) (same_by-self h s)

pub same-is : (s t : Bytes) → same s t ≡ true → s ≡ t
unfolding same
same-is s t e = same_by-is eqb (λ a b h. eqb-true a b h) s t e

pub same_self : (s : Bytes) → same s s ≡ true
unfolding same
same_self s = same_by-self eqb (λ a. eq-eqb a a refl) s

-- two names (or runs, or times), what they hold, and what comes after
three-is : (a b c : Bool) → (a && b && c) ≡ true → (a ≡ true) × (b ≡ true) × (c ≡ true)
three-is a b c e = (and_left a b (and_left (a && b) c e), and_right a b (and_left (a && b) c e), and_right (a && b) c e)

pub forest-is : (f g : Forest) → same_forest f g ≡ true → f ≡ g
unfolding same_forest
forest-is end end e = refl
forest-is end (elem m j s) e = clash (sym e)
forest-is end (text c s) e = clash (sym e)
forest-is end (stamp u j s) e = clash (sym e)
forest-is (elem n k r) end e = clash (sym e)
forest-is (elem n k r) (elem m j s) e =
    let h = three-is (same n m) (same_forest k j) (same_forest r s) e in
    let x = same-is n m h.0 in
    let y = forest-is k j h.1 in
    let z = forest-is r s h.2 in
    cc
forest-is (elem n k r) (text c s) e = clash (sym e)
forest-is (elem n k r) (stamp u j s) e = clash (sym e)
forest-is (text b r) end e = clash (sym e)
forest-is (text b r) (elem m j s) e = clash (sym e)
forest-is (text b r) (text c s) e = ap₂ text (same-is b c (and_left (same b c) (same_forest r s) e)) (forest-is r s (and_right (same b c) (same_forest r s) e))
forest-is (text b r) (stamp u j s) e = clash (sym e)
forest-is (stamp t k r) end e = clash (sym e)
forest-is (stamp t k r) (elem m j s) e = clash (sym e)
forest-is (stamp t k r) (text c s) e = clash (sym e)
forest-is (stamp t k r) (stamp u j s) e =
    let h = three-is (same t u) (same_forest k j) (same_forest r s) e in
    let x = same-is t u h.0 in
    let y = forest-is k j h.1 in
    let z = forest-is r s h.2 in
    cc

pub forest-self : (f : Forest) → same_forest f f ≡ true
unfolding same_forest
forest-self end = refl
forest-self (elem n k r) = and_both (same n n && same_forest k k) (same_forest r r) (and_both (same n n) (same_forest k k) (same_self n) (forest-self k)) (forest-self r)
forest-self (text b r) = and_both (same b b) (same_forest r r) (same_self b) (forest-self r)
forest-self (stamp t k r) = and_both (same t t && same_forest k k) (same_forest r r) (and_both (same t t) (same_forest k k) (same_self t) (forest-self k)) (forest-self r)
