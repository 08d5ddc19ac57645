-- The key children of an element, called by name in its written content, are what is looked up in its tree; and the first label of siblings.
use Rattle.std.specs.Prelude.{ℕ, Bool}
use Rattle.std.proofs.Common.{arith, sym, ◌∙◌, ap₂}
use Rattle.std.proofs.Math.Path.{◌≡◌, refl, ap, subst}
use Rattle.std.proofs.Math.Bool.{true, false}
use Rattle.std.proofs.Math.Option.{Option, none, some}
use mathlib.Core.Ordering.{Ordering, lt, eq, gt}
use mathlib.Core.List.{List, [], ◌∷◌, map, Memᴰ}
use Rattle.xml.specs.Bytes.{Bytes, any, all, same, is_value}
use Rattle.xml.specs.Forest.{Forest, end, elem, text, stamp}
use Rattle.model.specs.Masks.{clash}
use Rattle.model.specs.Keyed.{Tree, nil, node, slot, look, Before, WFBy, self}
use Rattle.model.specs.Looked.{before-trans, look-before}
use Rattle.model.specs.Orders.{labels, is_lt}
use Rattle.model.specs.Groups.{Groups, WFG}
use Rattle.model.specs.Stored.{mask_g, WFS}
use Rattle.keys.specs.KeyList.{Path, KeyList, above, key_names_at, rules_kept}
use Rattle.xml.specs.BytesLaws.{same-is, same_self}
use Rattle.keys.specs.KeyListLaws.{key-frontier}
use Rattle.xml.specs.Truth.{bool_by, and_left, and_right, mem-any}
use Rattle.keys.specs.Version.{◌▸◌, Label, name_in, before, called, is_key_value, is_one_value, run_in, value_in, label}
use Rattle.keys.specs.Tree.{Content, inner, front, contents}
use Rattle.keys.specs.Legal.{KeyChildren, Kind, Lawful}
use Rattle.timestamp.specs.Times.{Times, same_times, write_times}
use Rattle.timestamp.specs.TimesLaws.{times-is}
use Rattle.versions.specs.Archive.{Archive, wrap, branches, holding, stamped}
use Rattle.versions.specs.Lawful.{InnerEntry, FrontEntry, KeyEntry, LawfulArchive}
use Rattle.versions.specs.Walk.{first_label, precedes}
use Rattle.versions.specs.StampedLabels.{mask_one, called-other, key-label, called-none, label-stamped}

-- ---- one key child
one_value : (fs : List Forest) → is_one_value fs ≡ true → (v : Bytes) × (fs ≡ text v end ∷ []) × (is_value v ≡ true)
unfolding is_one_value is_key_value
one_value [] e = absurd (clash e refl)
one_value (end ∷ []) e = absurd (clash e refl)
one_value (elem m k r ∷ []) e = absurd (clash e refl)
one_value (stamp s k r ∷ []) e = absurd (clash e refl)
one_value (text b end ∷ []) e = (b, refl, e)
one_value (text b (elem m k r) ∷ []) e = absurd (clash e refl)
one_value (text b (text c r) ∷ []) e = absurd (clash e refl)
one_value (text b (stamp s k r) ∷ []) e = absurd (clash e refl)
one_value (f ∷ g ∷ fs) e = absurd (clash e refl)

-- a frontier in the versions t that holds one run of text has one group
one-group : (n : ℕ) (t : Times) (v : Bytes) (gs : Groups Content) → WFG contents n gs → FrontEntry gs → mask_g n gs ≡ t → holding gs end ≡ text v end → gs ≡ (t, front (text v end)) ∷ []
unfolding WFG holding branches
one-group n t v [] w h e d = let z : ◌≡◌ {A = ℕ} 0 1 = cc in absurd (omega arith)
one-group n t v ((s, inner) ∷ []) w h e d = absurd h.0
one-group n t v ((s, front f) ∷ []) w h e d = ap₂ (λ (u : Times) (g : Forest). (u, front g) ∷ []) (sym (mask_one n s (front f) w.0) ∙ e) d
one-group n t v (g ∷ i ∷ gs) w h e d = let z : ◌≡◌ {A = ℕ} 0 1 = cc in absurd (omega arith)

-- of an element in its `T` or bare
called-either : (key m : Bytes) (p t : Times) (x r : Forest) (v : Bytes) → same key m ≡ true → called key r ≡ [] → called key (wrap p t (elem m x) r) ≡ text v end ∷ [] → (p ≡ t) × (x ≡ text v end)
unfolding called wrap
called-either key m p t x r v e f h = go (same_times p t) refl h
  where
    go : (b : Bool) → same_times p t ≡ b → called key (elim b as (λ _. Forest) [ true ↦ elem m x r | false ↦ stamp (write_times t) (elem m x end) r ]) ≡ text v end ∷ [] → (p ≡ t) × (x ≡ text v end)
    go true s h = let d : x ∷ called key r ≡ text v end ∷ [] = rw (e, called) at h in (times-is p t s, cc)
    go false s h = let z : ◌≡◌ {A = ℕ} 0 1 = cc in absurd (omega arith)

-- ---- looking up
look-here : {X : Type 0} {q l : Label} (x : X) (k r : Tree Label X) → q ≡ l → look labels (node l x k r) (q ∷ []) ≡ some x
unfolding look
look-here {q = q} {l = l} x k r d = rw (subst (λ z. labels.cmp q z ≡ eq) d (self labels q))

-- what is found among the siblings after an element is no label up to its own
look-after : {X : Type 0} (q l : Label) (x : X) (k r : Tree Label X) {y : X} → Before labels l r → look labels r (q ∷ []) ≡ some y → look labels (node l x k r) (q ∷ []) ≡ some y
unfolding look
look-after q l x k r {y} b e = go (labels.cmp q l) refl
  where
    none_here : Before labels q r → ⊥
    none_here c = let d = look-before labels r q [] c in let z : ◌≡◌ {A = ℕ} 0 1 = cc in omega arith

    go : (o : Ordering) → labels.cmp q l ≡ o → slot {L = Label} o [] (some x) (look labels k []) (look labels r (q ∷ [])) ≡ some y
    go lt o = absurd (none_here (before-trans labels r o b))
    go eq o = absurd (none_here (subst (λ z. Before labels z r) (sym (labels.same o)) b))
    go gt o = e

module _ (K : KeyList) (u : rules_kept K ≡ true) (n : ℕ) (q : Path) (key : Bytes) (is_key : any (same key) (key_names_at K q) ≡ true) (t : Times) (v : Bytes) where
  -- the one of that name is bare and has the one value
  key-entry : (l : Label) (gs : Groups Content) (k r : Archive) → WFS labels contents n (node l gs k r) → LawfulArchive K n q (node l gs k r) → same key (name_in l) ≡ true
      → called key (stamped n t (node l gs k r)) ≡ text v end ∷ [] → gs ≡ (t, front (text v end)) ∷ []
  unfolding stamped WFBy Lawful
  key-entry l gs k r w h s e =
      let d = key-label K u n q key is_key l gs k r h s in
      let c = called-either key (name_in l) t (mask_g n gs) (holding gs (stamped n (mask_g n gs) k)) (stamped n t r) v s
      (called-none K u n q key is_key t r w.5 h.6 (subst (λ z. Before labels z r) d w.2)) e in
      let b : above K (q ▸ name_in l) ≡ false = ap (λ m. above K (q ▸ m)) (sym (same-is key (name_in l) s)) ∙ key-frontier K q key u is_key in
      let o : FrontEntry gs × (k ≡ nil) = subst (λ x. Kind InnerEntry FrontEntry x gs k) b h.3 in
      one-group n t v gs w.0 o.0 (sym c.0) (ap (λ (a : Archive). holding gs (stamped n (mask_g n gs) a)) (sym o.1) ∙ c.1)

  look-called : (a : Archive) → WFS labels contents n a → LawfulArchive K n q a → called key (stamped n t a) ≡ text v end ∷ []
      → look labels a ((key ∷ []) ∷ []) ≡ some ((t, front (text v end)) ∷ [])
  unfolding stamped called WFBy Lawful
  look-called nil w h e = let z : ◌≡◌ {A = ℕ} 0 1 = cc in absurd (omega arith)
  look-called (node l gs k r) w h e = go (same key (name_in l)) refl (λ f. look-called r w.5 h.6 f)
    where
      go : (b : Bool) → same key (name_in l) ≡ b → (called key (stamped n t r) ≡ text v end ∷ [] → look labels r ((key ∷ []) ∷ []) ≡ some ((t, front (text v end)) ∷ []))
          → look labels (node l gs k r) ((key ∷ []) ∷ []) ≡ some ((t, front (text v end)) ∷ [])
      go true s ih = look-here gs k r (sym (key-label K u n q key is_key l gs k r h s)) ∙ ap some (key-entry l gs k r w h s e)
      go false s ih = look-after (key ∷ []) l gs k r w.2 (ih (sym (called-other key (name_in l) t (mask_g n gs) (holding gs (stamped n (mask_g n gs) k)) (stamped n t r) s) ∙ e))

-- ---- all of them: those of an element in the versions t that holds f, whose tree is k
module _ (K : KeyList) (u : rules_kept K ≡ true) (n : ℕ) (q : Path) (k : Archive) (w : WFS labels contents n k) (h : LawfulArchive K n q k) (gs : Groups Content) where
  children : (ns : List Bytes) → ((key : Bytes) → Memᴰ key ns → any (same key) (key_names_at K q) ≡ true) → all (λ key. is_one_value (called key (stamped n (mask_g n gs) k))) ns ≡ true
      → KeyChildren (KeyEntry n) ns (map (λ key. value_in (called key (stamped n (mask_g n gs) k))) ns) gs k
  unfolding KeyChildren all value_in run_in
  children [] m e = tt
  children (key ∷ ns) m e =
      let f = stamped n (mask_g n gs) k in
      let o = one_value (called key f) (and_left (is_one_value (called key f)) _ e) in
      subst (λ b. (is_value b ≡ true) × KeyEntry n gs b (look labels k ((key ∷ []) ∷ [])) × KeyChildren (KeyEntry n) ns (map (λ key. value_in (called key f)) ns) gs k) (sym (ap value_in o.1))
      (o.2, look-called K u n q key (m key (Memᴰ.head refl)) (mask_g n gs) o.0 k w h o.1, children ns (λ j i. m j (Memᴰ.tail i)) (and_right (is_one_value (called key f)) _ e))

  pub key-children : all (λ key. is_one_value (called key (stamped n (mask_g n gs) k))) (key_names_at K q) ≡ true
      → KeyChildren (KeyEntry n) (key_names_at K q) (map (λ key. value_in (called key (stamped n (mask_g n gs) k))) (key_names_at K q)) gs k
  key-children e = children (key_names_at K q) (λ key m. mem-any (same key) m (same_self key)) e

-- ---- the first label of siblings
abbrev pub top_label : {E : Type 0} → Tree Label E → Option Label
top_label nil = none
top_label (node l e k r) = some l

first-wrap : (K : KeyList) (p : Path) (m : Bytes) (x r : Forest) (t s : Times) → first_label K p (wrap t s (elem m x) r) ≡ some (label K p m x)
unfolding first_label wrap
first-wrap K p m x r t s =
    bool_by (λ b. first_label K p (elim b as (λ _. Forest) [ true ↦ elem m x r | false ↦ stamp (write_times s) (elem m x end) r ]) ≡ some (label K p m x)) (same_times t s) (λ _. refl) (λ _. refl)

pub first-label : (K : KeyList) (n : ℕ) (p : Path) (t : Times) (a : Archive) → rules_kept K ≡ true → WFS labels contents n a → LawfulArchive K n p a → first_label K p (stamped n t a) ≡ top_label a
unfolding first_label stamped
first-label K n p t nil u w h = refl
first-label K n p t (node l gs k r) u w h =
    first-wrap K p (name_in l) (holding gs (stamped n (mask_g n gs) k)) (stamped n t r) t (mask_g n gs) ∙ ap some (label-stamped K n p l gs k r u w h)

is-lt : (o : Ordering) → is_lt o ≡ true → o ≡ lt
is-lt lt e = refl
is-lt eq e = absurd (clash e refl)
is-lt gt e = absurd (clash e refl)

pub before-first : {E : Type 0} (l : Label) (a : Tree Label E) → precedes (some l) (top_label a) ≡ true → Before labels l a
unfolding precedes before
before-first l nil e = tt
before-first l (node m x k r) e = is-lt (labels.cmp l m) e

pub first-before : {E : Type 0} (l : Label) (a : Tree Label E) → Before labels l a → precedes (some l) (top_label a) ≡ true
unfolding precedes before
first-before l nil b = refl
first-before l (node m x k r) b = ap is_lt b
