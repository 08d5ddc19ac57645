-- What is found among the elements of a version is what stands in its tree.
use Rattle.std.proofs.Math.Path.{◌≡◌, refl, ap, sym, subst}
use Rattle.std.proofs.Common.{◌∙◌}
use Rattle.std.proofs.Math.Bool.{true, false}
use Rattle.std.specs.Prelude.{List, ◌∷◌}
use Rattle.std.proofs.Math.Option.{Option, none, some}
use mathlib.Core.Ordering.{Ordering, lt, eq, gt}
use Rattle.xml.specs.Bytes.{Bytes}
use Rattle.xml.specs.Forest.{Forest, end, elem, text, stamp}
use Rattle.model.specs.Keyed.{here, slot, look, Before, Ascending}
use Rattle.model.specs.Orders.{labels, is_eq}
use Rattle.model.specs.Looked.{before-trans}
use Rattle.keys.specs.KeyList.{Path, KeyList, above}
use Rattle.keys.specs.Version.{◌▸◌, Label, label, name_in, same_label, find}
use Rattle.keys.specs.Tree.{Content, keyed}
use Rattle.keys.specs.TreeParts.{content_of, kids_of, keyed-elem}
use Rattle.keys.specs.Ascents.{elem-ascending}

-- what stands at the rest of an address, in what was found at its first step
abbrev pub seen : KeyList → Path → List Label → Option Forest → Option Content
seen K q ls none = none
seen K q ls (some k) = here ls (some (content_of (above K q) k)) (look labels (kids_of (above K q) (keyed K q k)) ls)

abbrev pub AscendingIn : KeyList → Path → Option Forest → Type 0
AscendingIn K q none = Unit {0}
AscendingIn K q (some k) = Ascending labels (kids_of (above K q) (keyed K q k))

module _ (K : KeyList) where
  -- a label before all siblings is not among them
  find-before : (p : Path) (l : Label) (f : Forest) → Before labels l (keyed K p f) → Ascending labels (keyed K p f) → find K p l f ≡ none
  unfolding keyed find same_label
  find-before p l end b a = refl
  find-before p l (text c r) b a = find-before p l r b a
  find-before p l (stamp t k r) b a = find-before p l r b a
  find-before p l (elem n k r) b a =
      let e : labels.cmp l (label K p n k) ≡ lt = rw (keyed-elem K p n k r) at b in
      let w = elem-ascending K p n k r a in
      subst (λ o. ◌≡◌ {A = Option Forest} (elim (is_eq o) as (λ _. Option Forest) [ true ↦ some k | false ↦ find K p l r ]) none) (sym e)
      (find-before p l r (before-trans labels (keyed K p r) e w.0) w.2)

  look-elem : (p : Path) (n : Bytes) (k r : Forest) (l : Label) (ls : List Label)
      → look labels (keyed K p (elem n k r)) (l ∷ ls)
      ≡ slot (labels.cmp l (label K p n k)) ls (some (content_of (above K (p ▸ n)) k)) (look labels (kids_of (above K (p ▸ n)) (keyed K (p ▸ n) k)) ls) (look labels (keyed K p r) (l ∷ ls))
  unfolding look
  look-elem p n k r l ls = rw (keyed-elem K p n k r)

  name-of : (p : Path) (n : Bytes) (k : Forest) (l : Label) → labels.cmp l (label K p n k) ≡ eq → n ≡ name_in l
  unfolding label name_in
  name-of p n k l e = sym (ap name_in (labels.same e))

  pub look-find : (p : Path) (f : Forest) (l : Label) (ls : List Label) → Ascending labels (keyed K p f)
      → look labels (keyed K p f) (l ∷ ls) ≡ seen K (p ▸ name_in l) ls (find K p l f)
  unfolding keyed find same_label look
  look-find p end l ls a = refl
  look-find p (text b r) l ls a = look-find p r l ls a
  look-find p (stamp t k r) l ls a = look-find p r l ls a
  look-find p (elem n k r) l ls a = look-elem p n k r l ls ∙ go (labels.cmp l (label K p n k)) refl (look-find p r l ls (elem-ascending K p n k r a).2)
    where
      go : (o : Ordering) → labels.cmp l (label K p n k) ≡ o → look labels (keyed K p r) (l ∷ ls) ≡ seen K (p ▸ name_in l) ls (find K p l r)
          → slot o ls (some (content_of (above K (p ▸ n)) k)) (look labels (kids_of (above K (p ▸ n)) (keyed K (p ▸ n) k)) ls) (look labels (keyed K p r) (l ∷ ls))
          ≡ seen K (p ▸ name_in l) ls (elim (is_eq o) as (λ _. Option Forest) [ true ↦ some k | false ↦ find K p l r ])
      go lt e ih = let w = elem-ascending K p n k r a in ap (seen K (p ▸ name_in l) ls) (sym (find-before p l r (before-trans labels (keyed K p r) e w.0) w.2))
      go eq e ih = ap (λ m. seen K (p ▸ m) ls (some k)) (name-of p n k l e)
      go gt e ih = ih

  pub find-ascending : (p : Path) (f : Forest) (l : Label) → Ascending labels (keyed K p f) → AscendingIn K (p ▸ name_in l) (find K p l f)
  unfolding keyed find same_label
  find-ascending p end l a = tt
  find-ascending p (text b r) l a = find-ascending p r l a
  find-ascending p (stamp t k r) l a = find-ascending p r l a
  find-ascending p (elem n k r) l a = go (labels.cmp l (label K p n k)) refl (find-ascending p r l (elem-ascending K p n k r a).2)
    where
      go : (o : Ordering) → labels.cmp l (label K p n k) ≡ o → AscendingIn K (p ▸ name_in l) (find K p l r)
          → AscendingIn K (p ▸ name_in l) (elim (is_eq o) as (λ _. Option Forest) [ true ↦ some k | false ↦ find K p l r ])
      go lt e ih = ih
      go eq e ih = subst (λ m. AscendingIn K (p ▸ m) (some k)) (name-of p n k l e) (elem-ascending K p n k r a).1
      go gt e ih = ih
