-- The label of an archive's element is read off its written content: its key children stand there bare, each once, with its values.
use Rattle.std.specs.Prelude.{ℕ, Bool, length}
use Rattle.std.proofs.Common.{arith, ◌∙◌, subst}
use Rattle.std.proofs.Math.Path.{◌≡◌, refl, sym, ap, ap₂}
use Rattle.std.proofs.Math.Bool.{true, false}
use Rattle.std.proofs.Math.Option.{Option, some}
use mathlib.Core.Ordering.{Ordering, lt, eq, gt, eq≢lt}
use mathlib.Core.List.Memᴰ
use mathlib.Core.List.{List, [], ◌∷◌, map, Memᴰ}
use Rattle.xml.specs.Bytes.{Bytes, any, all, same, is_name}
use Rattle.xml.specs.Forest.{Forest, end, elem, text, stamp}
use Rattle.model.specs.Masks.{clash}
use Rattle.model.specs.Keyed.{Tree, nil, node, slot, look, Before, WFBy, self}
use Rattle.model.specs.Looked.{before-trans}
use Rattle.model.specs.Orders.{labels}
use Rattle.model.specs.Groups.{Groups, Apart, WFG}
use Rattle.model.specs.Stored.{mask_g, or-blank, WFS}
use Rattle.keys.specs.KeyList.{Path, KeyList, above, key_names_at, rules_kept}
use Rattle.xml.specs.BytesLaws.{same-is, same_self}
use Rattle.keys.specs.KeyListLaws.{key-bare, keyed-above}
use Rattle.xml.specs.Truth.{bool_by, not_so, and_both, mem-any, any_none}
use Rattle.keys.specs.Version.{◌▸◌, Label, name_in, called, is_key_value, is_one_value, run_in, value_in, label}
use Rattle.keys.specs.Address.{values_in}
use Rattle.keys.specs.Tree.{Content, inner, front, same_content, contents}
use Rattle.keys.specs.Legal.{KeyChildren, Kind, Lawful}
use Rattle.timestamp.specs.Times.{Times, same_times, write_times}
use Rattle.timestamp.specs.TimesLaws.{times-self}
use Rattle.versions.specs.Archive.{Archive, wrap, holding, stamped}
use Rattle.versions.specs.Lawful.{InnerEntry, FrontEntry, KeyEntry, LawfulArchive}

-- ---- one content
-- the versions of an element with one content are that content's
pub mask_one : (n : ℕ) (t : Times) (c : Content) → length t ≡ n → mask_g n ((t, c) ∷ []) ≡ t
unfolding mask_g
mask_one n t c e = or-blank t n e

-- an element above a frontier holds the elements in it
pub held_inner : (n : ℕ) (gs : Groups Content) (kids : Forest) → WFG contents n gs → InnerEntry gs → holding gs kids ≡ kids
unfolding holding WFG Apart same_content
held_inner n [] kids w h = refl
held_inner n ((t, inner) ∷ []) kids w h = refl
held_inner n ((t, front f) ∷ []) kids w h = absurd h.0
held_inner n ((t, front f) ∷ g ∷ gs) kids w h = absurd h.0
held_inner n ((t, inner) ∷ (u, front f) ∷ gs) kids w h = absurd h.1.0
held_inner n ((t, inner) ∷ (u, inner) ∷ gs) kids w h = absurd (clash refl w.2.0)

-- ---- elements of a name among written siblings
-- another element is passed over, bare or in its `T`
pub called-other : (key m : Bytes) (p t : Times) (x r : Forest) → same key m ≡ false → called key (wrap p t (elem m x) r) ≡ called key r
unfolding called wrap
called-other key m p t x r e =
    bool_by (λ b. called key (elim b as (λ _. Forest) [ true ↦ elem m x r | false ↦ stamp (write_times t) (elem m x end) r ]) ≡ called key r)
    (same_times p t) (λ _. rw (e, called)) (λ _. refl)

-- an element that has its parent's set is bare, and found
pub wrap-bare : (t : Times) (element : Forest → Forest) (r : Forest) → wrap t t element r ≡ element r
unfolding wrap
wrap-bare t element r = rw (times-self t, wrap)

called-here : (key : Bytes) (t : Times) (x r : Forest) → called key (wrap t t (elem key x) r) ≡ x ∷ called key r
unfolding called
called-here key t x r = ap (called key) (wrap-bare t (elem key x) r) ∙ rw (same_self key, called)

-- what is looked for is here, or further on
look-head : {X : Type 0} {q l : Label} (x : X) (k r : Tree Label X) {y : X} → q ≡ l → look labels (node l x k r) (q ∷ []) ≡ some y → x ≡ y
unfolding look
look-head {q = q} {l = l} x k r {y} d e =
    let o : labels.cmp q l ≡ eq = subst (λ z. labels.cmp q z ≡ eq) d (self labels q) in
    let f : some x ≡ some y = rw o at e in cc

look-tail : {X : Type 0} {q l : Label} (x : X) (k r : Tree Label X) {y : X} → (q ≡ l → ⊥) → look labels (node l x k r) (q ∷ []) ≡ some y → look labels r (q ∷ []) ≡ some y
unfolding look
look-tail {q = q} {l = l} x k r {y} d e = go (labels.cmp q l) refl e
  where
    go : (o : Ordering) → labels.cmp q l ≡ o → slot {L = Label} o [] (some x) (look labels k []) (look labels r (q ∷ [])) ≡ some y → look labels r (q ∷ []) ≡ some y
    go lt o f = let z : ◌≡◌ {A = ℕ} 0 1 = cc in absurd (omega arith)
    go eq o f = absurd (d (labels.same o))
    go gt o f = f

-- a child that stands as long as its parent t, with one run of text
called-found : (key : Bytes) (t : Times) (v : Bytes) (n : ℕ) (l : Label) (gs : Groups Content) (kids r : Forest) → name_in l ≡ key → gs ≡ (t, front (text v end)) ∷ []
    → WFG contents n ((t, front (text v end)) ∷ []) → called key (wrap t (mask_g n gs) (elem (name_in l) (holding gs kids)) r) ≡ text v end ∷ called key r
unfolding holding WFG
called-found key t v n l gs kids r d e w =
    ap (called key) (ap₂ (λ (m : Bytes) (hs : Groups Content). wrap t (mask_g n hs) (elem m (holding hs kids)) r) d e ∙ ap (λ s. wrap t s (elem key (text v end)) r) (mask_one n t (front (text v end)) w.0))
    ∙ called-here key t (text v end) r

-- a label is its name and its values
label-parts : (l : Label) → is_name (name_in l) ≡ true → l ≡ name_in l ∷ values_in l
unfolding is_name name_in values_in
label-parts [] e = absurd (clash e refl)
label-parts (m ∷ vs) e = refl

-- an element that has no key names has no values
no-values : {E : Type 0} (P : E → Bytes → Option E → Type 0) (ns vs : List Bytes) (e : E) (k : Tree Label E) → KeyChildren P ns vs e k → ns ≡ [] → vs ≡ []
unfolding KeyChildren
no-values P ns [] e k h z = refl
no-values P [] (v ∷ vs) e k h z = absurd h
no-values P (n ∷ ns) (v ∷ vs) e k h z = let b : ◌≡◌ {A = ℕ} 0 1 = cc in absurd (omega arith)

module _ (K : KeyList) (u : rules_kept K ≡ true) (n : ℕ) (q : Path) (key : Bytes) (is_key : any (same key) (key_names_at K q) ≡ true) where
  -- a child with the name of a key has no label but that name
  pub key-label : (l : Label) (gs : Groups Content) (k r : Archive) → LawfulArchive K n q (node l gs k r) → same key (name_in l) ≡ true → l ≡ key ∷ []
  unfolding Lawful
  key-label l gs k r h e =
      let d = same-is key (name_in l) e in
      let b : key_names_at K (q ▸ name_in l) ≡ [] = ap (λ m. key_names_at K (q ▸ m)) (sym d) ∙ key-bare K q key u is_key in
      label-parts l h.0 ∙ ap₂ (λ m vs. m ∷ vs) (sym d) (no-values (KeyEntry n) _ (values_in l) gs k h.4 b)

  pub called-none : (t : Times) (k : Archive) → WFS labels contents n k → LawfulArchive K n q k → Before labels (key ∷ []) k → called key (stamped n t k) ≡ []
  unfolding stamped called WFBy Lawful
  called-none t nil w h b = refl
  called-none t (node l gs k r) w h b =
      called-other key (name_in l) t (mask_g n gs) _ _ (not_so (same key (name_in l)) (λ e. eq≢lt (sym (self labels (key ∷ [])) ∙ ap (labels.cmp (key ∷ [])) (sym (key-label l gs k r h e)) ∙ b)))
      ∙ called-none t r w.5 h.6 (before-trans labels r b w.2)

  called-key : (t : Times) (v : Bytes) (k : Archive) → WFS labels contents n k → LawfulArchive K n q k → look labels k ((key ∷ []) ∷ []) ≡ some ((t, front (text v end)) ∷ []) → called key (stamped n t k) ≡ text v end ∷ []
  unfolding stamped called WFBy Lawful look name_in
  called-key t v nil w h e = let z : ◌≡◌ {A = ℕ} 0 1 = cc in absurd (omega arith)
  called-key t v (node l gs k r) w h e = go (same key (name_in l)) refl (λ f. called-key t v r w.5 h.6 f)
    where
      go : (b : Bool) → same key (name_in l) ≡ b → (look labels r ((key ∷ []) ∷ []) ≡ some ((t, front (text v end)) ∷ []) → called key (stamped n t r) ≡ text v end ∷ [])
          → called key (wrap t (mask_g n gs) (elem (name_in l) (holding gs (stamped n (mask_g n gs) k))) (stamped n t r)) ≡ text v end ∷ []
      go true s ih =
          let d : l ≡ key ∷ [] = key-label l gs k r h s in
          let x = look-head gs k r (sym d) e in
          called-found key t v n l gs (stamped n (mask_g n gs) k) (stamped n t r) (ap name_in d) x (subst (λ (z : Groups Content). WFG contents n z) x w.0)
          ∙ ap (λ fs. text v end ∷ fs) (called-none t r w.5 h.6 (subst (λ z. Before labels z r) d w.2))
      go false s ih = called-other key (name_in l) t (mask_g n gs) _ _ s ∙ ih (look-tail gs k r (λ d. clash (ap (same key) (sym (ap name_in d)) ∙ same_self key) s) e)

-- ---- an element of siblings in an element of path p
module _ (K : KeyList) (n : ℕ) (p : Path) (l : Label) (gs : Groups Content) (k r : Archive)
    (u : rules_kept K ≡ true) (w : WFS labels contents n (node l gs k r)) (h : LawfulArchive K n p (node l gs k r)) where
  abbrev inside : Forest
  inside = holding gs (stamped n (mask_g n gs) k)

  one-called : (key v : Bytes) → any (same key) (key_names_at K (p ▸ name_in l)) ≡ true → KeyEntry n gs v (look labels k ((key ∷ []) ∷ [])) → called key inside ≡ text v end ∷ []
  unfolding WFBy Lawful
  one-called key v m e =
      ap (called key) (held_inner n gs (stamped n (mask_g n gs) k) w.0 (subst (λ b. Kind InnerEntry FrontEntry b gs k) above-here h.3))
      ∙ called-key K u n (p ▸ name_in l) key m (mask_g n gs) v k w.4 h.5 e
    where
      above-here : above K (p ▸ name_in l) ≡ true
      above-here = keyed-above K (p ▸ name_in l) (λ z. clash (rw z at m) (any_none (same key) [] (λ x o. absurd (Memᴰ.not-nil o))))

  values-called : (ns vs : List Bytes) → ((key : Bytes) → Memᴰ key ns → any (same key) (key_names_at K (p ▸ name_in l)) ≡ true) → KeyChildren (KeyEntry n) ns vs gs k
      → map (λ key. value_in (called key inside)) ns ≡ vs
  unfolding KeyChildren value_in run_in
  values-called [] [] f c = refl
  values-called [] (v ∷ vs) f c = absurd c
  values-called (key ∷ ns) [] f c = absurd c
  values-called (key ∷ ns) (v ∷ vs) f c =
      ap₂ (λ a b. a ∷ b) (ap value_in (one-called key v (f key (Memᴰ.head refl)) c.1)) (values-called ns vs (λ j m. f j (Memᴰ.tail m)) c.2)

  all-called : (ns vs : List Bytes) → ((key : Bytes) → Memᴰ key ns → any (same key) (key_names_at K (p ▸ name_in l)) ≡ true) → KeyChildren (KeyEntry n) ns vs gs k
      → all (λ key. is_one_value (called key inside)) ns ≡ true
  unfolding KeyChildren all is_one_value is_key_value
  all-called [] [] f c = refl
  all-called [] (v ∷ vs) f c = absurd c
  all-called (key ∷ ns) [] f c = absurd c
  all-called (key ∷ ns) (v ∷ vs) f c =
      and_both (is_one_value (called key inside)) _ (ap is_one_value (one-called key v (f key (Memᴰ.head refl)) c.1) ∙ c.0) (all-called ns vs (λ j m. f j (Memᴰ.tail m)) c.2)

  -- the label that its written content gives is its own
  pub label-stamped : label K p (name_in l) (holding gs (stamped n (mask_g n gs) k)) ≡ l
  unfolding label Lawful
  label-stamped =
      ap (λ vs. name_in l ∷ vs) (values-called (key_names_at K (p ▸ name_in l)) (values_in l) (λ key m. mem-any (same key) m (same_self key)) h.4)
      ∙ sym (label-parts l h.0)

  -- and there it has each key child just once
  pub keys-stamped : all (λ key. is_one_value (called key (holding gs (stamped n (mask_g n gs) k)))) (key_names_at K (p ▸ name_in l)) ≡ true
  unfolding Lawful
  keys-stamped = all-called (key_names_at K (p ▸ name_in l)) (values_in l) (λ key m. mem-any (same key) m (same_self key)) h.4
