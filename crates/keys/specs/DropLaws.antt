-- Dropping white space changes no label, so that it does not matter for 8 and 9: key children lie at frontiers, where nothing is dropped.
use Rattle.std.specs.Prelude.{◌≡◌, Bool, true, false}
use Rattle.std.proofs.Math.Path.{refl, sym, ap, ap₂}
use Rattle.std.proofs.Common.{◌∙◌}
use Rattle.std.proofs.Math.Bool.{not, ◌&&◌, ◌||◌}
use mathlib.Core.List.{List, [], ◌∷◌}
use Rattle.xml.specs.Bytes.{Bytes, any, all, same, is_white}
use Rattle.xml.specs.BytesLaws.{same-is, same_self}
use Rattle.xml.specs.Truth.{by-test, or-first, or-second}
use Rattle.xml.specs.Forest.{Forest, end, elem, text, stamp}
use Rattle.keys.specs.KeyList.{Path, KeyList, above, key_names_at, rules_kept}
use Rattle.keys.specs.KeyListLaws.{beneath, key-frontier}
use Rattle.keys.specs.Version.{◌▸◌, Label, drop_white, called, is_one_value, unkeyed, value_in, label, same_label, find, is_some, doubled}
use Rattle.keys.specs.SortedKept.{find-elem}
use Rattle.keys.specs.Labelled.{values_of, has_keys}

-- a run of text is dropped or kept
pub drop-run : (K : KeyList) (p : Path) (b : Bytes) (r : Forest) → (above K p && all is_white b) ≡ true → drop_white K p (text b r) ≡ drop_white K p r
unfolding drop_white
drop-run K p b r e = rw (e, drop_white)

pub keep_run : (K : KeyList) (p : Path) (b : Bytes) (r : Forest) → (above K p && all is_white b) ≡ false → drop_white K p (text b r) ≡ text b (drop_white K p r)
unfolding drop_white
keep_run K p b r e = rw (e, drop_white)

-- beneath a frontier nothing is dropped
pub front-drop : (K : KeyList) (q : Path) (f : Forest) → above K q ≡ false → drop_white K q f ≡ f
unfolding drop_white
front-drop K q end a = refl
front-drop K q (elem n k r) a = ap₂ (elem n) (front-drop K (q ▸ n) k (beneath K q n a)) (front-drop K q r a)
front-drop K q (text b r) a = rw (a, drop_white) (ap (text b) (front-drop K q r a))
front-drop K q (stamp t k r) a = ap₂ (stamp t) (front-drop K q k a) (front-drop K q r a)

-- a function of siblings that passes over text does not see whether it is dropped
over-text : {A : Type 0} (μ : Forest → A) (x : Bool) (b : Bytes) (r : Forest) → μ (text b r) ≡ μ r
    → μ (elim x as (λ _. Forest) [ true ↦ r | false ↦ text b r ]) ≡ μ r
over-text μ true b r e = refl
over-text μ false b r e = e

module _ (K : KeyList) (rules : rules_kept K ≡ true) where
  -- a key child stands at a frontier
  pub key-front : (p : Path) (key n : Bytes) → any (same key) (key_names_at K p) ≡ true → same key n ≡ true → above K (p ▸ n) ≡ false
  key-front p key n m e = ap (λ (z : Bytes). above K (p ▸ z)) (sym (same-is key n e)) ∙ key-frontier K p key rules m

  pub called-drop : (p : Path) (key : Bytes) (f : Forest) → any (same key) (key_names_at K p) ≡ true → called key (drop_white K p f) ≡ called key f
  unfolding called drop_white
  called-drop p key end m = refl
  called-drop p key (text b r) m = over-text (called key) (above K p && all is_white b) b (drop_white K p r) refl ∙ called-drop p key r m
  called-drop p key (stamp t k r) m = called-drop p key r m
  called-drop p key (elem n k r) m =
      let i = called-drop p key r m in
      by-test (same key n)
      (λ e. rw (e, called) (ap₂ ◌∷◌ (front-drop K (p ▸ n) k (key-front p key n m e)) i))
      (λ e. rw (e, called) i)

  -- of all key names
  drop-each : (p : Path) (f : Forest) (ns : List Bytes) → ((n : Bytes) → any (same n) ns ≡ true → any (same n) (key_names_at K p) ≡ true)
      → (values_of ns (drop_white K p f) ≡ values_of ns f) × (has_keys ns (drop_white K p f) ≡ has_keys ns f)
  unfolding any all
  drop-each p f [] h = (refl, refl)
  drop-each p f (n ∷ ns) h =
      let i = drop-each p f ns (λ x m. h x (or-second (same x n) (any (same x) ns) m)) in
      let c = called-drop p n f (h n (or-first (same n n) (any (same n) ns) (same_self n))) in
      (ap₂ ◌∷◌ (ap value_in c) i.0, ap₂ ◌&&◌ (ap is_one_value c) i.1)

  pub label-drop : (p : Path) (n : Bytes) (k : Forest) → label K p n (drop_white K (p ▸ n) k) ≡ label K p n k
  unfolding label
  label-drop p n k = ap (◌∷◌ n) (drop-each (p ▸ n) k (key_names_at K (p ▸ n)) (λ x m. m)).0

  keys-drop : (p : Path) (n : Bytes) (k : Forest) → has_keys (key_names_at K (p ▸ n)) (drop_white K (p ▸ n) k) ≡ has_keys (key_names_at K (p ▸ n)) k
  keys-drop p n k = (drop-each (p ▸ n) k (key_names_at K (p ▸ n)) (λ x m. m)).1

  -- 8
  pub unkeyed-drop : (p : Path) (f : Forest) → unkeyed K p (drop_white K p f) ≡ unkeyed K p f
  unfolding unkeyed drop_white
  unkeyed-drop p end = refl
  unkeyed-drop p (text b r) = over-text (unkeyed K p) (above K p && all is_white b) b (drop_white K p r) refl ∙ unkeyed-drop p r
  unkeyed-drop p (stamp t k r) = unkeyed-drop p r
  unkeyed-drop p (elem n k r) = ap₂ ◌||◌ (ap₂ (λ x y. not x || y) (keys-drop p n k) (unkeyed-drop (p ▸ n) k)) (unkeyed-drop p r)

  -- 9
  find-drop : (p : Path) (l : Label) (f : Forest) → is_some (find K p l (drop_white K p f)) ≡ is_some (find K p l f)
  unfolding find drop_white
  find-drop p l end = refl
  find-drop p l (text b r) = over-text (λ g. is_some (find K p l g)) (above K p && all is_white b) b (drop_white K p r) refl ∙ find-drop p l r
  find-drop p l (stamp t k r) = find-drop p l r
  find-drop p l (elem n k r) =
      find-elem K p l n (drop_white K (p ▸ n) k) (drop_white K p r)
      ∙ ap₂ (λ m x. same_label l m || x) (label-drop p n k) (find-drop p l r) ∙ sym (find-elem K p l n k r)

  pub doubled-drop : (p : Path) (f : Forest) → doubled K p (drop_white K p f) ≡ doubled K p f
  unfolding doubled drop_white
  doubled-drop p end = refl
  doubled-drop p (text b r) = over-text (doubled K p) (above K p && all is_white b) b (drop_white K p r) refl ∙ doubled-drop p r
  doubled-drop p (stamp t k r) = doubled-drop p r
  doubled-drop p (elem n k r) =
      ap₂ ◌||◌
      (ap₂ (λ x y. above K p && x || y) (ap (λ l. is_some (find K p l (drop_white K p r))) (label-drop p n k) ∙ find-drop p (label K p n k) r) (doubled-drop (p ▸ n) k))
      (doubled-drop p r)
