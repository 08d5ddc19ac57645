-- Siblings that a program takes for legal are the siblings of an archive's tree, as it is written.
use Rattle.std.specs.Prelude.{ℕ, ◌≡◌, refl, Bool, false, not, ◌&&◌, T, length}
use Rattle.std.proofs.Math.Path.{sym, subst}
use Rattle.std.proofs.Common.{◌∙◌, ap, ap₂}
use Rattle.std.proofs.Math.Bool.{true}
use Rattle.std.proofs.Math.Option.{some}
use mathlib.Core.List.{[], ◌∷◌, map}
use Rattle.std.proofs.lemmas.Bool.{not-true}
use Rattle.xml.specs.Bytes.{Bytes, bytes, all, same, is_name}
use Rattle.xml.specs.Forest.{Forest, end, elem, text, stamp, Tidy}
use Rattle.xml.specs.Read.{is_end}
use Rattle.model.specs.Keyed.{any, nil, node, Under, Roof, WFBy}
use Rattle.model.specs.Masks.{clash, true-is}
use Rattle.model.specs.Orders.{labels}
use Rattle.model.specs.Groups.{Groups, Apart, WFG}
use Rattle.model.specs.Stored.{mask_g, WFS}
use Rattle.keys.specs.KeyList.{Path, KeyList, listed, above, key_names_at, rules_kept}
use Rattle.keys.specs.KeyListLaws.{front-bare}
use Rattle.xml.specs.Truth.{and_left, and_right, both_true}
use Rattle.keys.specs.Version.{◌▸◌, called, is_one_value, value_in, label, name_in}
use Rattle.keys.specs.Address.{values_in}
use Rattle.keys.specs.Tree.{Content, inner, contents}
use Rattle.keys.specs.Legal.{KeyChildren, Kind, Lawful}
use Rattle.versions.specs.AddContents.{wrap-other}
use Rattle.timestamp.specs.Times.{Times, same_times, write_times}
use Rattle.timestamp.specs.TimesLaws.{times-is, times-self, times-not}
use Rattle.versions.specs.Archive.{Archive, wrap, holding, stamped}
use Rattle.versions.specs.Lawful.{InnerEntry, FrontEntry, KeyEntry, LawfulArchive}
use Rattle.versions.specs.Walk.{times_in, canonical, ever, within, front_legal, is_sole, first_label, precedes, siblings_legal}
use Rattle.versions.specs.SetLaws.{length-times_in, ever-any, within-under}
use Rattle.versions.specs.StampedLabels.{mask_one, wrap-bare}
use Rattle.versions.specs.FrontLegal.{canonical-is, front-groups}
use Rattle.versions.specs.KeyLooked.{key-children, top_label, first-label, before-first}

-- the tree of siblings in an element that has path p and stands in the versions t
pub record Treed (K : KeyList) (n : ℕ) (p : Path) (t : Times) (f : Forest) : Type 0 where
  pub tree : Archive
  pub written : f ≡ stamped n t tree
  pub formed : WFS labels contents n tree
  pub lawful : LawfulArchive K n p tree
  pub roof : Roof (mask_g n) t tree

-- ---- one element
-- the groups and the tree of what an element that has path q and stands in the versions t holds
record Held (K : KeyList) (n : ℕ) (q : Path) (t : Times) (f : Forest) : Type 0 where
  groups : Groups Content
  kids : Archive
  formed : WFG contents n groups
  mask : mask_g n groups ≡ t
  holds : holding groups (stamped n t kids) ≡ f
  kind : Kind InnerEntry FrontEntry (above K q) groups kids
  keys : KeyChildren (KeyEntry n) (key_names_at K q) (map (λ key. value_in (called key f)) (key_names_at K q)) groups kids
  kids-formed : WFS labels contents n kids
  kids-lawful : LawfulArchive K n q kids
  kids-roof : Roof (mask_g n) t kids

module _ (K : KeyList) (n : ℕ) (q : Path) (t : Times) (f : Forest) (u : rules_kept K ≡ true) (l : length t ≡ n) (a : any t ≡ true) where
  held-above : above K q ≡ true → all (λ key. is_one_value (called key f)) (key_names_at K q) ≡ true → Treed K n q t f → Held K n q t f
  unfolding WFG Apart holding
  held-above b e g =
      let gs : Groups Content = (t, inner) ∷ [] in
      let m : mask_g n gs ≡ t = mask_one n t inner l in
      record {
        groups = gs;
        kids = g.tree;
        formed = (l, true-is a, tt, tt);
        mask = m;
        holds = sym g.written;
        kind = subst (λ x. Kind InnerEntry FrontEntry x gs g.tree) (sym b) (tt, tt);
        keys = subst (λ h. all (λ key. is_one_value (called key h)) (key_names_at K q) ≡ true → KeyChildren (KeyEntry n) (key_names_at K q) (map (λ key. value_in (called key h)) (key_names_at K q)) gs g.tree)
            (ap (λ s. stamped n s g.tree) m ∙ sym g.written) (key-children K u n q g.tree g.formed g.lawful gs) e;
        kids-formed = g.formed;
        kids-lawful = g.lawful;
        kids-roof = g.roof;
      }

  held-front : above K q ≡ false → Tidy true f → front_legal n t f ≡ true → Held K n q t f
  unfolding stamped WFBy Lawful Roof KeyChildren
  held-front b d e =
      let g = front-groups n t f l a d e in
      record {
        groups = g.groups;
        kids = nil;
        formed = g.formed;
        mask = g.mask;
        holds = g.held;
        kind = subst (λ x. Kind InnerEntry FrontEntry x g.groups nil) (sym b) (g.entry, refl);
        keys = subst (λ ns. KeyChildren (KeyEntry n) ns (map (λ key. value_in (called key f)) ns) g.groups nil) (sym (front-bare K q b)) tt;
        kids-formed = tt;
        kids-lawful = tt;
        kids-roof = tt;
      }

  held : (b : Bool) → above K q ≡ b → Tidy true f → (siblings_legal K n q t f ≡ true → Treed K n q t f)
      → elim b as (λ _. Bool) [ true ↦ all (λ key. is_one_value (called key f)) (key_names_at K q) && siblings_legal K n q t f | false ↦ front_legal n t f ] ≡ true → Held K n q t f
  held true b d ih e = held-above b (and_left (all (λ key. is_one_value (called key f)) (key_names_at K q)) _ e) (ih (and_right (all (λ key. is_one_value (called key f)) (key_names_at K q)) _ e))
  held false b d ih e = held-front b d e

under-self : (t : Times) → Under t t
unfolding Under
under-self [] = tt
under-self (true ∷ t) = (tt, under-self t)
under-self (false ∷ t) = (tt, under-self t)

-- an element that has its parent's set, and the siblings after it
bare-treed : (K : KeyList) (n : ℕ) (p : Path) (t : Times) (m : Bytes) (k r : Forest) → rules_kept K ≡ true → any t ≡ true → is_name m ≡ true → same m (bytes "T") ≡ false → listed K (p ▸ m) ≡ true
    → Held K n (p ▸ m) t k → precedes (some (label K p m k)) (first_label K p r) ≡ true → Treed K n p t r → Treed K n p t (elem m k r)
unfolding stamped WFBy Lawful Roof label name_in values_in
bare-treed K n p t m k r u a i j o h b g =
    let gs = h.groups in
    record {
      tree = node (label K p m k) gs h.kids g.tree;
      written = sym (ap (λ z. wrap t z (elem m (holding gs (stamped n z h.kids))) (stamped n t g.tree)) h.mask ∙ wrap-bare t (elem m (holding gs (stamped n t h.kids))) (stamped n t g.tree)
          ∙ ap₂ (elem m) h.holds (sym g.written));
      formed = (
        h.formed,
        subst (λ z. T (any z)) (sym h.mask) (true-is a),
        before-first (label K p m k) g.tree (subst (λ z. precedes (some (label K p m k)) z ≡ true) (ap (first_label K p) g.written ∙ first-label K n p t g.tree u g.formed g.lawful) b),
        subst (λ z. Roof (mask_g n) z h.kids) (sym h.mask) h.kids-roof,
        h.kids-formed,
        g.formed,
      );
      lawful = (i, j, o, h.kind, h.keys, h.kids-lawful, g.lawful);
      roof = (subst (λ z. Under t z) (sym h.mask) (under-self t), g.roof);
    }

-- ---- one element alone
end-nil : (n : ℕ) (t : Times) (a : Archive) → is_end (stamped n t a) ≡ true → a ≡ nil
unfolding stamped wrap is_end
end-nil n t nil e = refl
end-nil n t (node l gs k r) e = absurd (go (same_times t (mask_g n gs)) e)
  where
    go : (b : Bool) → is_end (elim b as (λ _. Forest) [
      | true ↦ elem (name_in l) (holding gs (stamped n (mask_g n gs) k)) (stamped n t r)
      | false ↦ stamp (write_times (mask_g n gs)) (elem (name_in l) (holding gs (stamped n (mask_g n gs) k)) end) (stamped n t r)
    ]) ≡ true → ⊥
    go true h = clash h refl
    go false h = clash h refl

-- a tree of one element, which stands in the versions t
abbrev Alone : ℕ → Times → Archive → Type 0
Alone n t nil = ⊥
Alone n t (node l gs k r) = (r ≡ nil) × (mask_g n gs ≡ t)

sole-alone : (n : ℕ) (t : Times) (a : Archive) → is_sole (stamped n t a) ≡ true → Alone n t a
unfolding stamped wrap is_sole
sole-alone n t nil e = clash e refl
sole-alone n t (node l gs k r) e = go (same_times t (mask_g n gs)) refl e
  where
    go : (b : Bool) → same_times t (mask_g n gs) ≡ b → is_sole (elim b as (λ _. Forest) [
      | true ↦ elem (name_in l) (holding gs (stamped n (mask_g n gs) k)) (stamped n t r)
      | false ↦ stamp (write_times (mask_g n gs)) (elem (name_in l) (holding gs (stamped n (mask_g n gs) k)) end) (stamped n t r)
    ]) ≡ true → (r ≡ nil) × (mask_g n gs ≡ t)
    go true s h = (end-nil n t r h, sym (times-is t (mask_g n gs) s))
    go false s h = absurd (clash h refl)

-- an element in its `T`, and the siblings after it
stamp-treed : (K : KeyList) (n : ℕ) (p : Path) (t s : Times) (k r : Forest) → rules_kept K ≡ true → (t ≡ s → ⊥) → Under t s → is_sole k ≡ true → precedes (first_label K p k) (first_label K p r) ≡ true
    → (a : Archive) → k ≡ stamped n s a → WFS labels contents n a → LawfulArchive K n p a → Treed K n p t r → Treed K n p t (stamp (write_times s) k r)
unfolding stamped WFBy Lawful Roof is_sole
stamp-treed K n p t s k r u v b i c nil e w h g = absurd (clash (ap is_sole (sym e) ∙ i) refl)
stamp-treed K n p t s k r u v b i c (node l gs kk rr) e w h g =
    let o = sole-alone n s (node l gs kk rr) (ap is_sole (sym e) ∙ i) in
    let x = holding gs (stamped n (mask_g n gs) kk) in
    let is-k : k ≡ elem (name_in l) x end = e ∙ ap (λ a. wrap s (mask_g n gs) (elem (name_in l) x) (stamped n s a)) o.0
    ∙ ap (λ z. wrap z (mask_g n gs) (elem (name_in l) x) end) (sym o.1) ∙ wrap-bare (mask_g n gs) (elem (name_in l) x) end in
    record {
      tree = node l gs kk g.tree;
      written = sym (wrap-other t (mask_g n gs) (elem (name_in l) x) (stamped n t g.tree) (times-not t (mask_g n gs) (λ d. v (d ∙ o.1)))
          ∙ ap (λ z. stamp (write_times z) (elem (name_in l) x end) (stamped n t g.tree)) o.1 ∙ ap₂ (stamp (write_times s)) (sym is-k) (sym g.written));
      formed = (
        w.0,
        w.1,
        before-first l g.tree (subst (λ z. precedes z (top_label g.tree) ≡ true) (ap (first_label K p) e ∙ first-label K n p s (node l gs kk rr) u w h)
            (subst (λ z. precedes (first_label K p k) z ≡ true) (ap (first_label K p) g.written ∙ first-label K n p t g.tree u g.formed g.lawful) c)),
        w.3,
        w.4,
        g.formed,
      );
      lawful = (h.0, h.1, h.2, h.3, h.4, h.5, g.lawful);
      roof = (subst (λ z. Under t z) (sym o.1) b, g.roof);
    }

-- ---- siblings
pub siblings-tree : (K : KeyList) (n : ℕ) (p : Path) (t : Times) (f : Forest) → rules_kept K ≡ true → length t ≡ n → any t ≡ true → Tidy true f → siblings_legal K n p t f ≡ true → Treed K n p t f
unfolding siblings_legal stamped WFBy Lawful Roof
siblings-tree K n p t end u l a d h = record { tree = nil; written = refl; formed = tt; lawful = tt; roof = tt }
siblings-tree K n p t (text b r) u l a d h = absurd (clash h refl)
siblings-tree K n p t (elem m k r) u l a d h =
    let h4 = both_true _ (siblings_legal K n p t r) h in
    let h3 = both_true _ (precedes (some (label K p m k)) (first_label K p r)) h4.0 in
    let h2 = both_true (listed K (p ▸ m) && not (same m (bytes "T"))) _ h3.0 in
    let h1 = both_true (listed K (p ▸ m)) (not (same m (bytes "T"))) h2.0 in
    bare-treed K n p t m k r u a d.0 (not-true (same m (bytes "T")) h1.1) h1.0
    (held K n (p ▸ m) t k u l a (above K (p ▸ m)) refl d.1 (λ e. siblings-tree K n (p ▸ m) t k u l a d.1 e) h2.1)
    h3.1
    (siblings-tree K n p t r u l a d.2 h4.1)
siblings-tree K n p t (stamp s k r) u l a d h =
    let v = times_in n s in
    let h7 = both_true _ (siblings_legal K n p t r) h in
    let h6 = both_true _ (precedes (first_label K p k) (first_label K p r)) h7.0 in
    let h5 = both_true _ (siblings_legal K n p v k) h6.0 in
    let h4 = both_true _ (not (same_times v t)) h5.0 in
    let h3 = both_true _ (within v t) h4.0 in
    let h2 = both_true _ (ever v) h3.0 in
    let h1 = both_true (is_sole k) (canonical n s) h2.0 in
    let g = siblings-tree K n p v k u (length-times_in n s) (sym (ever-any v) ∙ h2.1) d.2 h5.1 in
    subst (λ z. Treed K n p t (stamp z k r)) (sym (canonical-is n s h1.1))
    (stamp-treed K n p t v k r u (λ e. clash (ap (λ z. same_times z t) (sym e) ∙ times-self t) (not-true (same_times v t) h4.1))
    (within-under v t (length-times_in n s ∙ sym l) h3.1) h1.0 h6.1 g.tree g.written g.formed g.lawful (siblings-tree K n p t r u l a d.3 h7.1))
