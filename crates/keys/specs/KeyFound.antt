-- The key children of an element are found in its tree, each with its value.
use Rattle.std.proofs.Math.Path.{◌≡◌, refl, ap, subst}
use Rattle.std.proofs.Common.{sym, ◌∙◌}
use Rattle.std.specs.Prelude.{Bool}
use Rattle.std.proofs.Math.Bool.{true, false}
use mathlib.Core.List.{List, [], ◌∷◌, map}
use Rattle.std.proofs.Math.Option.{Option, none, some}
use Rattle.xml.specs.Bytes.{Bytes, any, all, same, is_value}
use Rattle.xml.specs.Forest.{Forest, end, elem, text, stamp}
use Rattle.model.specs.Keyed.{self, look, Ascending}
use Rattle.model.specs.Orders.{labels, is_eq, of-is_eq}
use Rattle.model.specs.Masks.{clash}
use Rattle.xml.specs.Truth.{bool_by, not_so, and_left, and_right, or-first, or-second}
use Rattle.keys.specs.KeyList.{Path, KeyList, above, key_names_at, rules_kept}
use Rattle.xml.specs.BytesLaws.{same-is, same_self}
use Rattle.keys.specs.KeyListLaws.{key-bare, key-frontier, front-bare}
use Rattle.keys.specs.Version.{◌▸◌, called, is_key_value, is_one_value, run_in, value_in, label, name_in, same_label, find}
use Rattle.keys.specs.Tree.{Content, front, keyed}
use Rattle.keys.specs.Legal.{KeyChildren, KeyContent}
use Rattle.keys.specs.TreeParts.{content_of, kids_of}
use Rattle.keys.specs.FindLaws.{seen, look-find}

abbrev first_of : List Forest → Option Forest
first_of [] = none
first_of (f ∷ fs) = some f

-- a key child holds its value and nothing else
one_value : (fs : List Forest) → is_one_value fs ≡ true → (first_of fs ≡ some (text (value_in fs) end)) × (is_value (value_in fs) ≡ true)
unfolding is_one_value is_key_value value_in run_in
one_value [] e = absurd (clash e refl)
one_value (f ∷ g ∷ fs) e = absurd (clash e refl)
one_value (end ∷ []) e = absurd (clash e refl)
one_value (elem n k r ∷ []) e = absurd (clash e refl)
one_value (stamp t k r ∷ []) e = absurd (clash e refl)
one_value (text b end ∷ []) e = (refl, e)
one_value (text b (text c r) ∷ []) e = absurd (clash e refl)
one_value (text b (elem n k r) ∷ []) e = absurd (clash e refl)
one_value (text b (stamp t k r) ∷ []) e = absurd (clash e refl)

module _ (K : KeyList) (q : Path) where
  -- a name with no key names is its own label
  bare-label : (key m : Bytes) (j : Forest) → key_names_at K (q ▸ key) ≡ [] → same_label (key ∷ []) (label K q m j) ≡ same key m
  unfolding same_label label name_in
  bare-label key m j h = bool_by (λ b. same key m ≡ b → same_label (key ∷ []) (label K q m j) ≡ b) (same key m)
      (λ _ e. subst (λ x. same_label (key ∷ []) (label K q x j) ≡ true) (same-is key m e) alone)
      (λ _ e. not_so _ (λ t. clash (subst (λ x. same key x ≡ true) (ap name_in (labels.same (of-is_eq (labels.cmp (key ∷ []) (label K q m j)) t))) (same_self key)) e))
      refl
    where
      alone : same_label (key ∷ []) (label K q key j) ≡ true
      alone = subst (λ ns. is_eq (labels.cmp (key ∷ []) (key ∷ map (λ n. value_in (called n j)) ns)) ≡ true) (sym h) (ap is_eq (self labels (key ∷ [])))

  find-key : (key : Bytes) (f : Forest) → key_names_at K (q ▸ key) ≡ [] → find K q (key ∷ []) f ≡ first_of (called key f)
  unfolding find called
  find-key key end h = refl
  find-key key (text b r) h = find-key key r h
  find-key key (stamp t k r) h = find-key key r h
  find-key key (elem m j r) h =
      subst (λ b. ◌≡◌ {A = Option Forest} (elim b as (λ _. Option Forest) [ true ↦ some j | false ↦ find K q (key ∷ []) r ]) (first_of (called key (elem m j r)))) (sym (bare-label key m j h))
      (bool_by (λ b. ◌≡◌ {A = Option Forest} (elim b as (λ _. Option Forest) [ true ↦ some j | false ↦ find K q (key ∷ []) r ]) (first_of (elim b as (λ _. List Forest) [ true ↦ j ∷ called key r | false ↦ called key r ]))) (same key m)
      (λ _. refl) (λ _. find-key key r h))

module _ (K : KeyList) (q : Path) (k : Forest) (rules : rules_kept K ≡ true) where
  -- one key child
  key-child : (key : Bytes) → any (same key) (key_names_at K q) ≡ true → is_one_value (called key k) ≡ true → Ascending labels (keyed K q k)
      → look labels (keyed K q k) ((key ∷ []) ∷ []) ≡ some (front (text (value_in (called key k)) end))
  unfolding name_in
  key-child key m o a = look-find K q k (key ∷ []) [] a
      ∙ ap (seen K (q ▸ key) []) (find-key K q key k (key-bare K q key rules m) ∙ (one_value (called key k) o).0)
      ∙ ap (λ b. some (content_of b (text (value_in (called key k)) end))) (key-frontier K q key rules m)

  key-children : (c : Content) → Ascending labels (keyed K q k) → (ns : List Bytes) → ((n : Bytes) → any (same n) ns ≡ true → any (same n) (key_names_at K q) ≡ true)
      → all (λ key. is_one_value (called key k)) ns ≡ true → KeyChildren KeyContent ns (map (λ key. value_in (called key k)) ns) c (keyed K q k)
  unfolding all any KeyChildren
  key-children c a [] h o = tt
  key-children c a (n ∷ ns) h o =
      let one = and_left (is_one_value (called n k)) (all (λ key. is_one_value (called key k)) ns) o in (
        (one_value (called n k) one).1,
        key-child n (h n (or-first (same n n) (any (same n) ns) (same_self n))) one a,
        key-children c a ns (λ x i. h x (or-second (same x n) (any (same x) ns) i)) (and_right (is_one_value (called n k)) (all (λ key. is_one_value (called key k)) ns) o),
      )

  -- of an element above a frontier, and of one at a frontier, which has no key names
  pub keys_found : (b : Bool) → above K q ≡ b → Ascending labels (kids_of b (keyed K q k)) → all (λ key. is_one_value (called key k)) (key_names_at K q) ≡ true
      → KeyChildren KeyContent (key_names_at K q) (map (λ key. value_in (called key k)) (key_names_at K q)) (content_of b k) (kids_of b (keyed K q k))
  unfolding KeyChildren
  keys_found true e a o = key-children _ a (key_names_at K q) (λ n i. i) o
  keys_found false e a o = rw (front-bare K q e) tt
