-- The conditions of a step are read just where they are written.
use Rattle.std.specs.Prelude.{suc, ◌≡◌, refl, true, List, [], ◌∷◌, ◌++◌, length}
use Prim.Native.Char.{code}
use Rattle.std.proofs.Common.{arith, sym, ◌∙◌, ap, subst, append-nil, append_assoc}
use Rattle.std.proofs.Math.Option.{Option, none, some}
use Rattle.xml.specs.Bytes.{Bytes, bytes, all, is_value}
use Rattle.xml.specs.Truth.{and_left, and_right, and_both}
use Rattle.keys.specs.AddressText.{joined, conditions_text}
use Rattle.keys.specs.AddressScan.{cut, after_open, condition, closed, conditions_from, conditions}
use Rattle.keys.specs.AddressCuts.{none-some, some_inj, cut-sound, cut-own, value-sound, value-own}

-- ---- one
abbrev written : Bytes → Bytes → Bytes → Bytes → Bytes
written o k v r = o ++ (k ++ (bytes "=\"" ++ (v ++ (bytes "\"" ++ r))))

condition-sound : (o k s v r : Bytes) → condition o k s ≡ some (v, r) → (s ≡ written o k v r) × (is_value v ≡ true)
unfolding condition after_open bytes
condition-sound o k s v r e = go (cut (o ++ (k ++ bytes "=\"")) s) refl e
  where
    go : (x : Option Bytes) → cut (o ++ (k ++ bytes "=\"")) s ≡ x → after_open x ≡ some (v, r) → (s ≡ written o k v r) × (is_value v ≡ true)
    go none c f = none-some f
    go (some t) c f =
        let h = value-sound t v r f in
        (cut-sound (o ++ (k ++ bytes "=\"")) s t c ∙ ap (λ z. (o ++ (k ++ bytes "=\"")) ++ z) h.0 ∙ simp append_assoc, h.1)

condition-own : (o k v r : Bytes) → is_value v ≡ true → condition o k (written o k v r) ≡ some (v, r)
unfolding condition after_open bytes
condition-own o k v r h =
    let w = o ++ (k ++ bytes "=\"") in
    let t = v ++ (code "\"" ∷ r) in
    let p : written o k v r ≡ w ++ t = simp append_assoc in
    ap (λ z. after_open (cut w z)) p ∙ ap after_open (cut-own w t) ∙ value-own v r h

-- ---- all that are left
pub record Read (o : Bytes) (ks : List Bytes) (s : Bytes) (done vs : List Bytes) (r : Bytes) : Type 0 where
  pub new : List Bytes
  pub all_are : vs ≡ done ++ new
  pub as_many : length new ≡ length ks
  pub values : all is_value new ≡ true
  pub text-is : s ≡ joined o ks new ++ r

from-sound : (o : Bytes) (done ks : List Bytes) (s : Bytes) (vs : List Bytes) (r : Bytes) → conditions_from o done ks s ≡ some (vs, r) → Read o ks s done vs r
unfolding conditions_from closed joined all
from-sound o done [] s vs r e = go (cut (bytes "]") s) refl e
  where
    go : (x : Option Bytes) → cut (bytes "]") s ≡ x → closed done x ≡ some (vs, r) → Read o [] s done vs r
    go none c f = none-some f
    go (some t) c f =
        let q = some_inj f in
        record {
          new = [];
          all_are = sym (ap (λ z. z.0) q) ∙ sym (append-nil done);
          as_many = refl;
          values = refl;
          text-is = cut-sound (bytes "]") s t c ∙ ap (λ z. bytes "]" ++ z.1) q;
        }
from-sound o done (k ∷ ks) s vs r e = go (condition o k s) refl (λ v t f. from-sound (bytes " and ") (done ++ v ∷ []) ks t vs r f) e
  where
    go : (x : Option (Bytes × Bytes)) → condition o k s ≡ x
        → ((v t : Bytes) → conditions_from (bytes " and ") (done ++ v ∷ []) ks t ≡ some (vs, r) → Read (bytes " and ") ks t (done ++ v ∷ []) vs r)
        → ◌≡◌ {A = Option (List Bytes × Bytes)} (elim x as (λ _. Option (List Bytes × Bytes)) [ none ↦ none | some x ↦ conditions_from (bytes " and ") (done ++ x.0 ∷ []) ks x.1 ]) (some (vs, r)) → Read o (k ∷ ks) s done vs r
    go none c ih f = none-some f
    go (some x) c ih f =
        let h = condition-sound o k s x.0 x.1 c in
        let m = ih x.0 x.1 f in
        record {
          new = x.0 ∷ m.new;
          all_are = m.all_are ∙ append_assoc done (x.0 ∷ []) m.new;
          as_many = ap suc m.as_many;
          values = and_both (is_value x.0) (all is_value m.new) h.1 m.values;
          text-is = h.0 ∙ ap (written o k x.0) m.text-is ∙ simp append_assoc;
        }

from-own : (o : Bytes) (done ks vs : List Bytes) (r : Bytes) → length vs ≡ length ks → all is_value vs ≡ true → conditions_from o done ks (joined o ks vs ++ r) ≡ some (done ++ vs, r)
unfolding conditions_from closed joined all
from-own o done [] [] r l h = ap (closed done) (cut-own (bytes "]") r) ∙ ap (λ z. some (z, r)) (sym (append-nil done))
from-own o done [] (v ∷ vs) r l h = absurd (omega arith)
from-own o done (k ∷ ks) [] r l h = absurd (omega arith)
from-own o done (k ∷ ks) (v ∷ vs) r l h =
    let J = joined (bytes " and ") ks vs in
    let p : joined o (k ∷ ks) (v ∷ vs) ++ r ≡ written o k v (J ++ r) = simp append_assoc in
    ap (conditions_from o done (k ∷ ks)) p
    ∙ ap (λ x. elim x as (λ _. Option (List Bytes × Bytes)) [ none ↦ none | some x ↦ conditions_from (bytes " and ") (done ++ x.0 ∷ []) ks x.1 ]) (condition-own o k v (J ++ r) (and_left (is_value v) _ h))
    ∙ from-own (bytes " and ") (done ++ v ∷ []) ks vs r (omega arith) (and_right (is_value v) _ h)
    ∙ ap (λ z. some (z, r)) (append_assoc done (v ∷ []) vs)

-- ---- those of a step
pub conditions-sound : (ks : List Bytes) (s : Bytes) (vs : List Bytes) (r : Bytes) → conditions ks s ≡ some (vs, r)
    → (length vs ≡ length ks) × (all is_value vs ≡ true) × (s ≡ conditions_text ks vs ++ r)
unfolding conditions conditions_text all
conditions-sound [] s vs r e = let q = some_inj e in (sym (ap (λ z. length z.0) q), sym (ap (λ z. all is_value z.0) q), ap (λ z. z.1) q)
conditions-sound (k ∷ ks) s vs r e =
    let m = from-sound (bytes "[") [] (k ∷ ks) s vs r e in
    subst (λ (z : List Bytes). (length z ≡ suc (length ks)) × (all is_value z ≡ true) × (s ≡ joined (bytes "[") (k ∷ ks) z ++ r)) (sym m.all_are) (m.as_many, m.values, m.text-is)

pub conditions-own : (ks vs : List Bytes) (r : Bytes) → length vs ≡ length ks → all is_value vs ≡ true → conditions ks (conditions_text ks vs ++ r) ≡ some (vs, r)
unfolding conditions conditions_text
conditions-own [] [] r l h = refl
conditions-own [] (v ∷ vs) r l h = absurd (omega arith)
conditions-own (k ∷ ks) vs r l h = from-own (bytes "[") [] (k ∷ ks) vs r l h
