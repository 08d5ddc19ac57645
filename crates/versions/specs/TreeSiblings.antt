-- The siblings of an archive's tree, as it is written, are legal by what a program checks on them.
use Rattle.std.specs.Prelude.{ℕ, ◌≤◌, ◌≡◌, Bool, ◌&&◌, length}
use Rattle.std.proofs.Math.Path.{refl, ap, subst}
use Rattle.std.proofs.Common.{sym, ◌∙◌}
use Rattle.std.proofs.Math.Bool.{true, false, not}
use Rattle.std.proofs.Math.Option.{some}
use Rattle.xml.specs.Bytes.{all}
use Rattle.xml.specs.Forest.{Forest, end, elem, stamp}
use Rattle.xml.specs.Read.{is_end}
use Rattle.model.specs.Keyed.{any, nil, node, Roof, WFBy}
use Rattle.model.specs.Masks.{clash, is_true}
use Rattle.model.specs.Orders.{labels}
use Rattle.model.specs.Groups.{Groups}
use Rattle.model.specs.Stored.{mask_g, WFS}
use Rattle.keys.specs.KeyList.{Path, KeyList, above, key_names_at, rules_kept}
use Rattle.xml.specs.Truth.{and_both}
use Rattle.keys.specs.Version.{◌▸◌, Label, called, is_one_value, name_in}
use Rattle.keys.specs.Tree.{Content, contents}
use Rattle.keys.specs.Legal.{Kind, Lawful}
use Rattle.versions.specs.AddContents.{wrap-other}
use Rattle.timestamp.specs.Times.{Times, same_times, write_times}
use Rattle.timestamp.specs.TimesLaws.{times-is, times-self, times-not}
use Rattle.versions.specs.Archive.{Archive, wrap, holding, stamped}
use Rattle.versions.specs.Lawful.{InnerEntry, FrontEntry, LawfulArchive}
use Rattle.versions.specs.Walk.{times_in, ever, within, front_legal, is_sole, first_label, precedes, siblings_legal}
use Rattle.versions.specs.SetLaws.{times_in-write, canonical-write, ever-any, under-within, under-length}
use Rattle.versions.specs.StampedLabels.{held_inner, wrap-bare, label-stamped, keys-stamped}
use Rattle.versions.specs.FrontLegal.{groups-front}
use Rattle.versions.specs.KeyLooked.{first-label, first-before}
use Rattle.versions.specs.SiblingsLegal.{}

-- ---- one element, of siblings in an element of path p
module _ (K : KeyList) (n : ℕ) (p : Path) (l : Label) (gs : Groups Content) (k r : Archive)
    (u : rules_kept K ≡ true) (b : n ≤ 999) (w : WFS labels contents n (node l gs k r)) (h : LawfulArchive K n p (node l gs k r))
    (ih : siblings_legal K n (p ▸ name_in l) (mask_g n gs) (stamped n (mask_g n gs) k) ≡ true) where
  abbrev q : Path
  q = p ▸ name_in l

  abbrev x : Forest
  x = holding gs (stamped n (mask_g n gs) k)

  -- what it holds
  held-legal : (c : Bool) → above K q ≡ c → Kind InnerEntry FrontEntry c gs k
      → elim c as (λ _. Bool) [ true ↦ all (λ key. is_one_value (called key x)) (key_names_at K q) && siblings_legal K n q (mask_g n gs) x | false ↦ front_legal n (mask_g n gs) x ] ≡ true
  unfolding WFBy stamped
  held-legal true a i =
      and_both _ _ (keys-stamped K n p l gs k r u w h) (subst (λ f. siblings_legal K n q (mask_g n gs) f ≡ true) (sym (held_inner n gs (stamped n (mask_g n gs) k) w.0 i)) ih)
  held-legal false a i =
      subst (λ (j : Archive). front_legal n (mask_g n gs) (holding gs (stamped n (mask_g n gs) j)) ≡ true) (sym i.1) (groups-front n (mask_g n gs) gs b w.0 i.0 refl)

  -- bare, in its own set
  elem-legal : (f : Forest) → precedes (some l) (first_label K p f) ≡ true → siblings_legal K n p (mask_g n gs) f ≡ true → siblings_legal K n p (mask_g n gs) (elem (name_in l) x f) ≡ true
  unfolding siblings_legal Lawful
  elem-legal f c e =
      and_both _ _ (and_both _ _ (and_both _ _ (and_both _ _ h.2 (ap not h.1)) (held-legal (above K q) refl h.3))
      (subst (λ j. precedes (some j) (first_label K p f) ≡ true) (sym (label-stamped K n p l gs k r u w h)) c)) e

  module _ (t : Times) (m : length (mask_g n gs) ≡ n) (f : Forest) (c : precedes (some l) (first_label K p f) ≡ true) (e : siblings_legal K n p t f ≡ true) where
    -- where its parent has the same set
    bare-legal : t ≡ mask_g n gs → siblings_legal K n p t (wrap t (mask_g n gs) (elem (name_in l) x) f) ≡ true
    bare-legal d =
        subst (λ g. siblings_legal K n p t g ≡ true) (sym (ap (λ z. wrap z (mask_g n gs) (elem (name_in l) x) f) d ∙ wrap-bare (mask_g n gs) (elem (name_in l) x) f))
        (subst (λ z. siblings_legal K n p z (elem (name_in l) x f) ≡ true) (sym d) (elem-legal f c (subst (λ z. siblings_legal K n p z f ≡ true) d e)))

    -- where it has another
    stamp-legal : (t ≡ mask_g n gs → ⊥) → within (mask_g n gs) t ≡ true → siblings_legal K n p t (stamp (write_times (mask_g n gs)) (elem (name_in l) x end) f) ≡ true
    unfolding siblings_legal is_sole is_end first_label WFBy precedes
    stamp-legal d i =
        let s : times_in n (write_times (mask_g n gs)) ≡ mask_g n gs = times_in-write n (mask_g n gs) m b in
        and_both _ _ (and_both _ _ (and_both _ _ (and_both _ _ (and_both _ _ (and_both _ _ (canonical-write n (mask_g n gs) m b)
        (ap ever s ∙ ever-any (mask_g n gs) ∙ is_true (any (mask_g n gs)) w.1))
        (ap (λ z. within z t) s ∙ i))
        (ap (λ z. not (same_times z t)) s ∙ ap not (times-not (mask_g n gs) t (λ g. d (sym g)))))
        (subst (λ z. siblings_legal K n p z (elem (name_in l) x end) ≡ true) (sym s) (elem-legal end refl refl)))
        (subst (λ j. precedes (some j) (first_label K p f) ≡ true) (sym (label-stamped K n p l gs k r u w h)) c)) e

-- ---- siblings
pub tree-siblings : (K : KeyList) (n : ℕ) (p : Path) (t : Times) (a : Archive) → rules_kept K ≡ true → n ≤ 999 → length t ≡ n → WFS labels contents n a → LawfulArchive K n p a → Roof (mask_g n) t a
    → siblings_legal K n p t (stamped n t a) ≡ true
unfolding siblings_legal stamped WFBy Lawful Roof
tree-siblings K n p t nil u b e w h o = refl
tree-siblings K n p t (node l gs k r) u b e w h o =
    let m : length (mask_g n gs) ≡ n = under-length (mask_g n gs) t o.0 ∙ e in
    go (same_times t (mask_g n gs)) refl m
    (tree-siblings K n (p ▸ name_in l) (mask_g n gs) k u b m w.4 h.5 w.3)
    (tree-siblings K n p t r u b e w.5 h.6 o.1)
  where
    c : precedes (some l) (first_label K p (stamped n t r)) ≡ true
    c = ap (precedes (some l)) (first-label K n p t r u w.5 h.6) ∙ first-before l r w.2

    go : (z : Bool) → same_times t (mask_g n gs) ≡ z → length (mask_g n gs) ≡ n → siblings_legal K n (p ▸ name_in l) (mask_g n gs) (stamped n (mask_g n gs) k) ≡ true → siblings_legal K n p t (stamped n t r) ≡ true
        → siblings_legal K n p t (wrap t (mask_g n gs) (elem (name_in l) (holding gs (stamped n (mask_g n gs) k))) (stamped n t r)) ≡ true
    go true d m i j = bare-legal K n p l gs k r u b w h i t m (stamped n t r) c j (times-is t (mask_g n gs) d)
    go false d m i j =
        subst (λ f. siblings_legal K n p t f ≡ true) (sym (wrap-other t (mask_g n gs) (elem (name_in l) (holding gs (stamped n (mask_g n gs) k))) (stamped n t r) d))
        (stamp-legal K n p l gs k r u b w h i t m (stamped n t r) c j (λ g. clash (ap (same_times t) (sym g) ∙ times-self t) d) (under-within (mask_g n gs) t o.0))
