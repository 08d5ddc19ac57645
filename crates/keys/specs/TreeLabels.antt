-- The labels of a lawful tree are those of the elements of its forest: a key child is found, and is the only one of its name.
use Rattle.std.specs.Prelude.{ℕ, Bool, true, false}
use Rattle.std.proofs.Common.{arith, sym, ◌∙◌, subst}
use Rattle.std.proofs.Math.Path.{◌≡◌, refl, ap, ap₂}
use Rattle.std.proofs.Math.Option.{Option, some}
use mathlib.Core.List.{List, [], ◌∷◌, map, Memᴰ}
use mathlib.Core.Ordering.{Ordering, lt, eq, gt, lt≢eq, gt≢eq}
use Rattle.model.specs.Masks.{clash}
use Rattle.model.specs.Keyed.{Tree, nil, node, slot, look, Before, Ascending, self}
use Rattle.model.specs.Looked.{before-trans}
use Rattle.model.specs.Orders.{labels}
use Rattle.xml.specs.Bytes.{Bytes, any, all, same, is_name}
use Rattle.xml.specs.Forest.{Forest, end, elem, text}
use Rattle.keys.specs.KeyList.{Path, KeyList, rules_kept, above, key_names_at}
use Rattle.keys.specs.Version.{◌▸◌, Label, called, is_key_value, is_one_value, run_in, value_in, label, name_in}
use Rattle.keys.specs.Address.{values_in}
use Rattle.keys.specs.Tree.{Content, inner, front, held_by, forest_of}
use Rattle.keys.specs.Legal.{KeyChildren, Kind, Lawful, InnerContent, FrontContent, KeyContent, LawfulVersion}
use Rattle.xml.specs.Truth.{not_so, and_both, mem-any}
use Rattle.xml.specs.BytesLaws.{same-is, same_self}
use Rattle.keys.specs.KeyListLaws.{key-bare, front-bare}

-- a label whose name is a name is that name and its values
pub label-parts : (l : Label) → is_name (name_in l) ≡ true → l ≡ name_in l ∷ values_in l
unfolding name_in values_in is_name
label-parts [] e = absurd (clash e refl)
label-parts (n ∷ vs) e = refl

-- where a path has no key names, a label has no values
pub no-values : {E : Type 0} (KeyEntry : E → Bytes → Option E → Type 0) (vs : List Bytes) (e : E) (k : Tree Label E) → KeyChildren KeyEntry [] vs e k → vs ≡ []
unfolding KeyChildren
no-values KeyEntry [] e k h = refl
no-values KeyEntry (v ∷ vs) e k h = absurd h

module _ (K : KeyList) (q : Path) (u : rules_kept K ≡ true) where
  -- an element named as a key of its parent has no values
  key-label : (n : Bytes) → any (same n) (key_names_at K q) ≡ true → (l : Label) (e : Content) (k r : Tree Label Content) → LawfulVersion K q (node l e k r) → same n (name_in l) ≡ true → l ≡ n ∷ []
  unfolding Lawful
  key-label n a l e k r h s =
      let p = same-is n (name_in l) s in
      let b : key_names_at K (q ▸ name_in l) ≡ [] = rw p at (key-bare K q n u a) in
      let v = no-values KeyContent (values_in l) e k (subst (λ ns. KeyChildren KeyContent ns (values_in l) e k) b h.4) in
      label-parts l h.0 ∙ ap₂ (λ a t. a ∷ t) (sym p) v

  -- none of its name comes after it
  called-after : (n : Bytes) → any (same n) (key_names_at K q) ≡ true → (t : Tree Label Content) → Before labels (n ∷ []) t → Ascending labels t → LawfulVersion K q t → called n (forest_of t) ≡ []
  unfolding Lawful Ascending called forest_of
  called-after n a nil b c h = refl
  called-after n a (node l e k r) b c h =
      rw (not_so (same n (name_in l)) (λ s. lt≢eq (sym b ∙ ap (labels.cmp (n ∷ [])) (key-label n a l e k r h s) ∙ self labels (n ∷ []))), called)
      (called-after n a r (before-trans labels r b c.0) c.2 h.6)

  -- the only element of its name is the one that is looked up
  called-key : (n v : Bytes) → any (same n) (key_names_at K q) ≡ true → (t : Tree Label Content) → Ascending labels t → LawfulVersion K q t
      → look labels t ((n ∷ []) ∷ []) ≡ some (front (text v end)) → called n (forest_of t) ≡ text v end ∷ []
  unfolding Lawful Ascending called forest_of look name_in
  called-key n v a nil c h e = let z : ◌≡◌ {A = ℕ} 0 1 = cc in absurd (omega arith)
  called-key n v a (node l e k r) c h f = go (labels.cmp (n ∷ []) l) refl (λ g. called-key n v a r c.2 h.6 g) f
    where
      go : (o : Ordering) → labels.cmp (n ∷ []) l ≡ o → (look labels r ((n ∷ []) ∷ []) ≡ some (front (text v end)) → called n (forest_of r) ≡ text v end ∷ [])
          → slot {L = Label} o [] (some e) (look labels k []) (look labels r ((n ∷ []) ∷ [])) ≡ some (front (text v end)) → called n (elem (name_in l) (held_by e (forest_of k)) (forest_of r)) ≡ text v end ∷ []
      go lt p ih g = let z : ◌≡◌ {A = ℕ} 0 1 = cc in absurd (omega arith)
      go eq p ih g =
          let d : n ∷ [] ≡ l = labels.same p in
          let w : e ≡ front (text v end) = cc in
          rw (ap (λ x. same n (name_in x)) (sym d) ∙ same_self n, called)
          (ap₂ (λ x t. x ∷ t) (ap (λ x. held_by x (forest_of k)) w) (called-after n a r (rw (← d) at c.0) c.2 h.6))
      go gt p ih g =
          rw (not_so (same n (name_in l)) (λ s. gt≢eq (sym p ∙ ap (labels.cmp (n ∷ [])) (key-label n a l e k r h s) ∙ self labels (n ∷ []))), called) (ih g)

  -- the values of the key children, each of them just once
  values-back : (ns vs : List Bytes) → ((n : Bytes) → Memᴰ n ns → any (same n) (key_names_at K q) ≡ true) → (e : Content) (t : Tree Label Content) → Ascending labels t → LawfulVersion K q t → KeyChildren KeyContent ns vs e t
      → (map (λ key. value_in (called key (forest_of t))) ns ≡ vs) × (all (λ key. is_one_value (called key (forest_of t))) ns ≡ true)
  unfolding KeyChildren all value_in run_in is_one_value is_key_value
  values-back [] [] a e t c h g = (refl, refl)
  values-back [] (v ∷ vs) a e t c h g = absurd g
  values-back (n ∷ ns) [] a e t c h g = absurd g
  values-back (n ∷ ns) (v ∷ vs) a e t c h g =
      let d = called-key n v (a n (Memᴰ.head refl)) t c h g.1 in
      let i = values-back ns vs (λ m o. a m (Memᴰ.tail o)) e t c h g.2 in
      (ap₂ (λ x y. x ∷ y) (ap value_in d) i.0, and_both _ _ (ap is_one_value d ∙ g.0) i.1)

-- the label of an element is that of the tree, and it has each key child just once
pub record Named (K : KeyList) (p : Path) (l : Label) (h : Forest) : Type 0 where
  pub is : label K p (name_in l) h ≡ l
  pub once : all (λ key. is_one_value (called key h)) (key_names_at K (p ▸ name_in l)) ≡ true

pub named : (K : KeyList) (p : Path) → rules_kept K ≡ true → (l : Label) (e : Content) (k r : Tree Label Content) → Ascending labels k → LawfulVersion K p (node l e k r) → Named K p l (held_by e (forest_of k))
unfolding Lawful label all
named K p u l e k r c h = go (above K (p ▸ name_in l)) refl e h.3 h.4
  where
    q : Path
    q = p ▸ name_in l

    go : (b : Bool) → above K q ≡ b → (e : Content) → Kind InnerContent FrontContent b e k → KeyChildren KeyContent (key_names_at K q) (values_in l) e k → Named K p l (held_by e (forest_of k))
    go true a inner w g =
        let i = values-back K q u (key_names_at K q) (values_in l) (λ n m. mem-any (same n) m (same_self n)) inner k c h.5 g in
        record { is = ap (λ t. name_in l ∷ t) i.0 ∙ sym (label-parts l h.0); once = i.1 }
    go true a (front f) w g = absurd w
    go false a inner w g = absurd w.0
    go false a (front f) w g =
        let b = front-bare K q a in
        let v = no-values KeyContent (values_in l) (front f) k (subst (λ ns. KeyChildren KeyContent ns (values_in l) (front f) k) b g) in
        record {
          is = ap (λ t. name_in l ∷ t) (ap (map (λ key. value_in (called key f))) b ∙ sym v) ∙ sym (label-parts l h.0);
          once = ap (all (λ key. is_one_value (called key f))) b;
        }
