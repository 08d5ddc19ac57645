-- A history read on the forest of an archive, the text of the nearest `T` around the element, is the text of the element's set.
use Rattle.std.specs.Prelude.{ℕ, ◌≤◌, ◌≡◌, ◌&&◌, eqb, length}
use Rattle.std.proofs.Math.Path.{refl, ap, ap₂}
use Rattle.std.proofs.Common.{sym, ◌∙◌, subst}
use Rattle.std.proofs.Math.Bool.{true, false}
use Rattle.std.proofs.Math.Option.{Option, none, some}
use mathlib.Core.Ordering.{Ordering, lt, eq, gt, lt≢gt, eq≢gt}
use mathlib.Core.List.{List, [], ◌∷◌}
use Rattle.model.specs.Masks.{clash}
use Rattle.model.specs.Keyed.{Tree, nil, node, three, here, slot, look, presence, Before, WFBy}
use Rattle.model.specs.Looked.{look-before, before-trans}
use Rattle.model.specs.Orders.{labels, is_eq}
use Rattle.model.specs.Groups.{Groups}
use Rattle.model.specs.Stored.{mask_g, history_s, WFS}
use Rattle.xml.specs.Bytes.{Bytes, all, is_value}
use Rattle.xml.specs.Forest.{Forest, end, elem, stamp}
use Rattle.keys.specs.KeyList.{Path, KeyList, listed, above, key_names_at, rules_kept}
use Rattle.keys.specs.KeyListLaws.{listed_above}
use Rattle.xml.specs.Truth.{bool_by, and_left, and_right}
use Rattle.keys.specs.Version.{◌▸◌, Label, name_in, same_label, label}
use Rattle.keys.specs.Address.{values_in, steps_known}
use Rattle.keys.specs.Tree.{Content, contents}
use Rattle.keys.specs.Legal.{Kind, Lawful}
use Rattle.timestamp.specs.Times.{Times, same_times, always, write_times}
use Rattle.timestamp.specs.TimesLaws.{times-is, write-none}
use Rattle.versions.specs.Archive.{Archive, wrap, holding, stamped, archive_forest}
use Rattle.versions.specs.Walk.{or_else, or_empty, history_in, history_forest}
use Rattle.versions.specs.Lawful.{InnerEntry, FrontEntry, LawfulArchive, LegalArchive}
use Rattle.versions.specs.StampedLabels.{held_inner, label-stamped}

-- what a step says of the rest of an address
known-here : (K : KeyList) (p : Path) (q : Label) (qs : List Label) → steps_known K p (q ∷ qs) ≡ true → listed K (p ▸ name_in q) ≡ true
unfolding steps_known
known-here K p q qs e =
    and_left (listed K (p ▸ name_in q)) _ (and_left (listed K (p ▸ name_in q) && eqb (length (values_in q)) (length (key_names_at K (p ▸ name_in q)))) _
    (and_left (listed K (p ▸ name_in q) && eqb (length (values_in q)) (length (key_names_at K (p ▸ name_in q))) && all is_value (values_in q)) _ e))

known-below : (K : KeyList) (p : Path) (q : Label) (qs : List Label) → steps_known K p (q ∷ qs) ≡ true → steps_known K (p ▸ name_in q) qs ≡ true
unfolding steps_known
known-below K p q qs e = and_right (listed K (p ▸ name_in q) && eqb (length (values_in q)) (length (key_names_at K (p ▸ name_in q))) && all is_value (values_in q)) _ e

-- the text of what stands at an address
abbrev shown : ℕ → Option (Groups Content) → Option Bytes
shown n none = none
shown n (some gs) = some (write_times (mask_g n gs))

or_nothing : {A : Type 0} (o : Option A) → or_else o none ≡ o
or_nothing none = refl
or_nothing (some a) = refl

-- labels ascend: what stands here or before stands nowhere further on
look-past : {X : Type 0} (q l : Label) (qs : List Label) (r : Tree Label X) (o : Ordering) → labels.cmp q l ≡ o → (o ≡ gt → ⊥) → Before labels l r → look labels r (q ∷ qs) ≡ none
look-past q l qs r lt e h b = look-before labels r q qs (before-trans labels r e b)
look-past q l qs r eq e h b = look-before labels r q qs (subst (λ z. Before labels z r) (sym (labels.same e)) b)
look-past q l qs r gt e h b = absurd (h refl)

-- the rest of an address in the element that it has come to, whose path is p
abbrev inside : KeyList → Path → Bytes → List Label → Forest → Option Bytes
inside K p around qs k = elim qs as (λ _. Option Bytes) [ [] ↦ some around | j ∷ js ↦ history_in K p around j js k ]

history-elem : (K : KeyList) (p : Path) (around : Bytes) (q : Label) (qs : List Label) (l : Label) (k r : Forest) (o : Ordering) → labels.cmp q l ≡ o → label K p (name_in l) k ≡ l
    → history_in K p around q qs (elem (name_in l) k r) ≡ three o (history_in K p around q qs r) (inside K (p ▸ name_in l) around qs k) (history_in K p around q qs r)
unfolding history_in same_label
history-elem K p around q qs l k r o c e =
    ap {B = Option Bytes} (λ m. elim (is_eq m) as (λ _. Option Bytes) [ true ↦ inside K (p ▸ name_in l) around qs k | false ↦ history_in K p around q qs r ]) (ap (labels.cmp q) e ∙ c) ∙ go o
  where
    go : (o : Ordering) → elim (is_eq o) as (λ _. Option Bytes) [ true ↦ inside K (p ▸ name_in l) around qs k | false ↦ history_in K p around q qs r ]
        ≡ three o (history_in K p around q qs r) (inside K (p ▸ name_in l) around qs k) (history_in K p around q qs r)
    go lt = refl
    go eq = refl
    go gt = refl

-- an element l that holds k, before siblings r where the address gives `after`
module _ (K : KeyList) (n : ℕ) (p : Path) (around : Bytes) (q : Label) (qs : List Label) (l : Label) (k r : Forest) (x after : Option (Groups Content))
    (named : label K p (name_in l) k ≡ l) (rest : history_in K p around q qs r ≡ shown n after) (past : (labels.cmp q l ≡ gt → ⊥) → after ≡ none) where
  history-bare : (o : Ordering) → labels.cmp q l ≡ o → (o ≡ eq → inside K (p ▸ name_in l) around qs k ≡ shown n x)
      → history_in K p around q qs (elem (name_in l) k r) ≡ shown n (three o none x after)
  history-bare lt c f = history-elem K p around q qs l k r lt c named ∙ rest ∙ ap (shown n) (past (λ d. lt≢gt (sym c ∙ d)))
  history-bare eq c f = history-elem K p around q qs l k r eq c named ∙ f refl
  history-bare gt c f = history-elem K p around q qs l k r gt c named ∙ rest

  history-wrapped : (s : Bytes) (o : Ordering) → labels.cmp q l ≡ o → (o ≡ eq → inside K (p ▸ name_in l) s qs k ≡ shown n x)
      → history_in K p around q qs (stamp s (elem (name_in l) k end) r) ≡ shown n (three o none x after)
  unfolding history_in
  history-wrapped s lt c f = ap₂ or_else (history-elem K p s q qs l k end lt c named) (rest ∙ ap (shown n) (past (λ d. lt≢gt (sym c ∙ d))))
  history-wrapped s eq c f =
      ap₂ or_else (history-elem K p s q qs l k end eq c named ∙ f refl) (rest ∙ ap (shown n) (past (λ d. eq≢gt (sym c ∙ d)))) ∙ or_nothing (shown n x)
  history-wrapped s gt c f = ap₂ or_else (history-elem K p s q qs l k end gt c named) rest

module _ (K : KeyList) (n : ℕ) (u : rules_kept K ≡ true) where
  -- in an element, which holds elements if a step of the address is left: nothing beneath a frontier is listed
  history-below : (p : Path) (l : Label) (gs : Groups Content) (k r : Archive) (qs : List Label) → WFS labels contents n (node l gs k r) → LawfulArchive K n p (node l gs k r)
      → steps_known K (p ▸ name_in l) qs ≡ true
      → ((j : Label) (js : List Label) → steps_known K (p ▸ name_in l) (j ∷ js) ≡ true
      → history_in K (p ▸ name_in l) (write_times (mask_g n gs)) j js (stamped n (mask_g n gs) k) ≡ shown n (look labels k (j ∷ js)))
      → inside K (p ▸ name_in l) (write_times (mask_g n gs)) qs (holding gs (stamped n (mask_g n gs) k)) ≡ shown n (here qs (some gs) (look labels k qs))
  unfolding WFBy Lawful
  history-below p l gs k r [] w h s kids = refl
  history-below p l gs k r (j ∷ js) w h s kids =
      bool_by (λ b. (Kind InnerEntry FrontEntry b gs k) → (above K (p ▸ name_in l) ≡ b)
      → history_in K (p ▸ name_in l) (write_times (mask_g n gs)) j js (holding gs (stamped n (mask_g n gs) k)) ≡ shown n (look labels k (j ∷ js)))
      (above K (p ▸ name_in l))
      (λ _ i _. ap (history_in K (p ▸ name_in l) (write_times (mask_g n gs)) j js) (held_inner n gs (stamped n (mask_g n gs) k) w.0 i) ∙ kids j js s)
      (λ _ _ a. absurd (clash (known-here K (p ▸ name_in l) j js s) (listed_above K (p ▸ name_in l) (name_in j) a)))
      h.3 refl

  history-node : (p : Path) (parent : Times) (l : Label) (gs : Groups Content) (k r : Archive) (q : Label) (qs : List Label)
      → WFS labels contents n (node l gs k r) → LawfulArchive K n p (node l gs k r) → steps_known K p (q ∷ qs) ≡ true
      → ((j : Label) (js : List Label) → steps_known K (p ▸ name_in l) (j ∷ js) ≡ true
      → history_in K (p ▸ name_in l) (write_times (mask_g n gs)) j js (stamped n (mask_g n gs) k) ≡ shown n (look labels k (j ∷ js)))
      → history_in K p (write_times parent) q qs (stamped n parent r) ≡ shown n (look labels r (q ∷ qs))
      → history_in K p (write_times parent) q qs (wrap parent (mask_g n gs) (elem (name_in l) (holding gs (stamped n (mask_g n gs) k))) (stamped n parent r))
      ≡ shown n (slot (labels.cmp q l) qs (some gs) (look labels k qs) (look labels r (q ∷ qs)))
  unfolding WFBy wrap
  history-node p parent l gs k r q qs w h s kids rest =
      bool_by (λ b. history_in K p (write_times parent) q qs (elim b as (λ _. Forest) [
        | true ↦ elem (name_in l) (holding gs (stamped n (mask_g n gs) k)) (stamped n parent r)
        | false ↦ stamp (write_times (mask_g n gs)) (elem (name_in l) (holding gs (stamped n (mask_g n gs) k)) end) (stamped n parent r)
      ]) ≡ shown n (slot (labels.cmp q l) qs (some gs) (look labels k qs) (look labels r (q ∷ qs))))
      (same_times parent (mask_g n gs))
      (λ d. history-bare K n p (write_times parent) q qs l _ _ (here qs (some gs) (look labels k qs)) _ (label-stamped K n p l gs k r u w h) rest past (labels.cmp q l) refl
      (λ c. ap (λ z. inside K (p ▸ name_in l) (write_times z) qs (holding gs (stamped n (mask_g n gs) k))) (times-is parent (mask_g n gs) d) ∙ below c))
      (λ d. history-wrapped K n p (write_times parent) q qs l _ _ (here qs (some gs) (look labels k qs)) _ (label-stamped K n p l gs k r u w h) rest past (write_times (mask_g n gs)) (labels.cmp q l) refl
      below)
    where
      past : (labels.cmp q l ≡ gt → ⊥) → look labels r (q ∷ qs) ≡ none
      past f = look-past q l qs r (labels.cmp q l) refl f w.2

      below : labels.cmp q l ≡ eq → inside K (p ▸ name_in l) (write_times (mask_g n gs)) qs (holding gs (stamped n (mask_g n gs) k)) ≡ shown n (here qs (some gs) (look labels k qs))
      below c = history-below p l gs k r qs w h (subst (λ z. steps_known K (p ▸ name_in z) qs ≡ true) (labels.same c) (known-below K p q qs s)) kids

  history-siblings : (p : Path) (parent : Times) (a : Archive) (q : Label) (qs : List Label) → WFS labels contents n a → LawfulArchive K n p a → steps_known K p (q ∷ qs) ≡ true
      → history_in K p (write_times parent) q qs (stamped n parent a) ≡ shown n (look labels a (q ∷ qs))
  unfolding stamped look history_in WFBy Lawful
  history-siblings p parent nil q qs w h s = refl
  history-siblings p parent (node l gs k r) q qs w h s =
      history-node p parent l gs k r q qs w h s (λ j js t. history-siblings (p ▸ name_in l) (mask_g n gs) k j js w.4 h.5 t) (history-siblings p parent r q qs w.5 h.6 s)

shown-text : (n : ℕ) (o : Option (Groups Content)) → or_empty (shown n o) ≡ write_times (presence (mask_g n) n o)
shown-text n none = sym (write-none n)
shown-text n (some gs) = refl

-- the history of an address is the text of the versions that hold it
pub history-archive : (K : KeyList) (n : ℕ) (a : Archive) (l : Label) (ls : List Label) → rules_kept K ≡ true → LegalArchive K n a → n ≤ 999 → steps_known K [] (l ∷ ls) ≡ true
    → history_forest K (l ∷ ls) (archive_forest n a) ≡ write_times (history_s labels contents n (l ∷ ls) a)
unfolding history_forest history_in archive_forest
history-archive K n a l ls u h m s =
    ap or_empty (or_nothing (history_in K [] (write_times (always n)) l ls (stamped n (always n) a)) ∙ history-siblings K n u [] (always n) a l ls h.formed h.lawful s)
    ∙ shown-text n (look labels a (l ∷ ls))
