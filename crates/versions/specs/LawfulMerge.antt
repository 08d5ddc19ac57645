-- Merging a legal version into a legal archive gives a legal archive, so the archive of legal versions is legal.
use Rattle.std.specs.Prelude.{ℕ, suc, ◌+◌, ◌≡◌, Bool, true, false, length, replicate}
use Rattle.std.proofs.Math.Path.{refl, sym, ap, ap₂}
use Rattle.std.proofs.Common.{◌∙◌, subst, arith}
use Rattle.std.proofs.Math.Option.{none, some}
use mathlib.Core.Ordering.{lt≢eq}
use mathlib.Core.List.{List, [], ◌∷◌}
use Rattle.xml.specs.Bytes.{Bytes}
use Rattle.xml.specs.Forest.{end, text}
use Rattle.model.specs.Gather.{gather, All}
use Rattle.model.specs.Keyed.{Tree, nil, node, self, fresh, merge_by, look, ◌▷◌, WFBy}
use Rattle.model.specs.Merged.{Zip, done, old, new, both, zipped, merge-is}
use Rattle.model.specs.Looked.{push_by, look-zip}
use Rattle.model.specs.Orders.{labels}
use Rattle.model.specs.Groups.{Groups, add_g, WFG}
use Rattle.model.specs.Sifted.{all-add}
use Rattle.model.specs.Stored.{merge_s, mask_g, mask-add, WFS}
use Rattle.model.specs.Theorems.{merge-formed}
use Rattle.keys.specs.KeyList.{Path, KeyList, rules_kept, contexts_in_notation, above, key_names_at}
use Rattle.keys.specs.Version.{◌▸◌, Label, name_in}
use Rattle.keys.specs.Address.{values_in}
use Rattle.keys.specs.Tree.{Content, front, contents, content-self}
use Rattle.keys.specs.Legal.{Kind, KeyChildren, Lawful, InnerContent, FrontContent, KeyContent, LawfulVersion, AtMostOne, LegalTree}
use Rattle.versions.specs.Archive.{Archive}
use Rattle.versions.specs.Lawful.{InnerEntry, FrontEntry, KeyEntry, LawfulArchive, LegalArchive}
use Rattle.versions.specs.LawfulLaws.{children-both, children-one, root-same}

-- a version after n others
module _ (n : ℕ) where
  abbrev make : Content → Groups Content
  make c = add_g contents n [] (some c)

  abbrev Joined : Archive → Tree Label Content → Archive → Type 0
  Joined = Zip labels make (add_g contents n)

  nil-joined : {a m : Archive} {v : Tree Label Content} → Joined a v m → a ≡ nil → v ≡ nil → m ≡ nil
  unfolding merge_by fresh
  nil-joined z p q = sym (merge-is labels make (add_g contents n) z) ∙ ap₂ (λ a v. merge_by labels make (add_g contents n) a v) p q

  -- ---- kinds
  kind-old : (b : Bool) (h : Groups Content) (k km : Archive) → Joined k nil km → Kind InnerEntry FrontEntry b h k → Kind InnerEntry FrontEntry b (add_g contents n h none) km
  kind-old true h k km z x = all-add InnerContent contents n h none x tt
  kind-old false h k km z x = (all-add FrontContent contents n h none x.0 tt, nil-joined z x.1 refl)

  kind-new : (b : Bool) (c : Content) (k : Tree Label Content) (km : Archive) → Joined nil k km → Kind InnerContent FrontContent b c k → Kind InnerEntry FrontEntry b (make c) km
  kind-new true c k km z x = all-add InnerContent contents n [] (some c) tt x
  kind-new false c k km z x = (all-add FrontContent contents n [] (some c) tt x.0, nil-joined z refl x.1)

  kind-both : (b : Bool) (h : Groups Content) (c : Content) (k km : Archive) (j : Tree Label Content) → Joined k j km
      → Kind InnerEntry FrontEntry b h k → Kind InnerContent FrontContent b c j → Kind InnerEntry FrontEntry b (add_g contents n h (some c)) km
  kind-both true h c k km j z x y = all-add InnerContent contents n h (some c) x y
  kind-both false h c k km j z x y = (all-add FrontContent contents n h (some c) x.0 y.0, nil-joined z x.1 y.1)

  -- ---- key children
  -- the entry of a key child, one version more
  one_more : (p : List Bool) (c : Content) → add_g contents n ((p, c) ∷ []) (some c) ≡ (p ▷ true, c) ∷ []
  unfolding add_g
  one_more p c = rw (content-self c)

  one_less : (p : List Bool) (c : Content) → add_g contents n ((p, c) ∷ []) none ≡ (p ▷ false, c) ∷ []
  unfolding add_g
  one_less p c = refl

  at_first : (c : Content) → add_g contents n [] (some c) ≡ (replicate n false ▷ true, c) ∷ []
  unfolding add_g
  at_first c = refl

  abbrev key_value : Bytes → Content
  key_value v = front (text v end)

  keys-old : (h : Groups Content) (k km : Archive) → WFG contents n h → Joined k nil km → (ns vs : List Bytes)
      → KeyChildren (KeyEntry n) ns vs h k → KeyChildren (KeyEntry (suc n)) ns vs (add_g contents n h none) km
  unfolding look
  keys-old h k km w z ns vs x = children-one (KeyEntry n) (KeyEntry (suc n)) h k (add_g contents n h none) km (λ m v e.
      look-zip make (add_g contents n) labels z ((m ∷ []) ∷ []) ∙ ap (λ o. push_by make (add_g contents n) o none) e
      ∙ ap some (one_less (mask_g n h) (key_value v) ∙ ap (λ p. (p, key_value v) ∷ []) (sym (mask-add contents n h none w)))) ns vs x

  keys-new : (c : Content) (k : Tree Label Content) (km : Archive) → Joined nil k km → (ns vs : List Bytes)
      → KeyChildren KeyContent ns vs c k → KeyChildren (KeyEntry (suc n)) ns vs (make c) km
  unfolding look WFG mask_g
  keys-new c k km z ns vs x = children-one KeyContent (KeyEntry (suc n)) c k (make c) km (λ m v e.
      look-zip make (add_g contents n) labels z ((m ∷ []) ∷ []) ∙ ap (λ o. push_by make (add_g contents n) none o) e
      ∙ ap some (at_first (key_value v) ∙ ap (λ p. (p, key_value v) ∷ []) (sym (mask-add contents n [] (some c) tt)))) ns vs x

  keys-both : (h : Groups Content) (c : Content) (k km : Archive) (j : Tree Label Content) → WFG contents n h → Joined k j km → (ns vs : List Bytes)
      → KeyChildren (KeyEntry n) ns vs h k → KeyChildren KeyContent ns vs c j → KeyChildren (KeyEntry (suc n)) ns vs (add_g contents n h (some c)) km
  keys-both h c k km j w z ns vs x y = children-both (KeyEntry n) KeyContent (KeyEntry (suc n)) h k c j (add_g contents n h (some c)) km (λ m v e f.
      look-zip make (add_g contents n) labels z ((m ∷ []) ∷ []) ∙ ap₂ (λ o q. push_by make (add_g contents n) o q) e f
      ∙ ap some (one_more (mask_g n h) (key_value v) ∙ ap (λ p. (p, key_value v) ∷ []) (sym (mask-add contents n h (some c) w)))) ns vs x y

  -- ---- the whole tree
  module _ (K : KeyList) where
    lawful-joined : {a m : Archive} {v : Tree Label Content} → Joined a v m → (p : Path) → WFS labels contents n a
        → LawfulArchive K n p a → LawfulVersion K p v → LawfulArchive K (suc n) p m
    unfolding Lawful WFBy
    lawful-joined done p w x y = tt
    lawful-joined (old {l = l} {h = h} {k = k} {km = km} b z q) p w x y = (
      x.0,
      x.1,
      x.2,
      kind-old (above K (p ▸ name_in l)) h k km z x.3,
      keys-old h k km w.0 z (key_names_at K (p ▸ name_in l)) (values_in l) x.4,
      lawful-joined z (p ▸ name_in l) w.4 x.5 tt,
      lawful-joined q p w.5 x.6 y,
    )
    lawful-joined (new {l = l} {c = c} {k = k} {km = km} b z q) p w x y = (
      y.0,
      y.1,
      y.2,
      kind-new (above K (p ▸ name_in l)) c k km z y.3,
      keys-new c k km z (key_names_at K (p ▸ name_in l)) (values_in l) y.4,
      lawful-joined z (p ▸ name_in l) tt tt y.5,
      lawful-joined q p w x y.6,
    )
    lawful-joined (both {l = l} {h = h} {c = c} {k = k} {km = km} {k' = j} z q) p w x y = (
      x.0,
      x.1,
      x.2,
      kind-both (above K (p ▸ name_in l)) h c k km j z x.3 y.3,
      keys-both h c k km j w.0 z (key_names_at K (p ▸ name_in l)) (values_in l) x.4 y.4,
      lawful-joined z (p ▸ name_in l) w.4 x.5 y.5,
      lawful-joined q p w.5 x.6 y.6,
    )

  lawful-merge : (K : KeyList) (a : Archive) (v : Tree Label Content) → WFS labels contents n a → LawfulArchive K n [] a → LawfulVersion K [] v
      → LawfulArchive K (suc n) [] (merge_s labels contents n a v)
  lawful-merge K a v w x y = lawful-joined K (zipped labels make (add_g contents n) a v) [] w x y

-- ---- the root: the key list has one path of one name, so siblings beside the root would have its label
module _ (K : KeyList) (kept : rules_kept K ≡ true) (notation : contexts_in_notation K ≡ true) where
  pub one-root : (n : ℕ) (a : Archive) → WFS labels contents n a → LawfulArchive K n [] a → AtMostOne a
  unfolding WFBy Lawful
  one-root n nil w h = tt
  one-root n (node l gs k nil) w h = refl
  one-root n (node l gs k (node m hs j r)) w h =
      let e : l ≡ m = root-same K kept notation InnerEntry FrontEntry (KeyEntry n) InnerEntry FrontEntry (KeyEntry n) l m gs k (node m hs j r) hs j r h h.6 in
      absurd (lt≢eq (sym w.2 ∙ ap (labels.cmp l) (sym e) ∙ self labels l))

-- ---- the theorems
pub merge-lawful : (K : KeyList) (n : ℕ) (a : Archive) (v : Tree Label Content) (kept : rules_kept K ≡ true) (notation : contexts_in_notation K ≡ true)
    → LegalArchive K n a → LegalTree K v → LegalArchive K (suc n) (merge_s labels contents n a v)
merge-lawful K n a v kept notation x y =
    let w = merge-formed labels contents n a v x.formed y.ascends in
    let h = lawful-merge n K a v x.formed x.lawful y.lawful in
    record { formed = w; lawful = h; rooted = one-root K kept notation (suc n) (merge_s labels contents n a v) w h }

-- n versions and some more
gather-lawful : (K : KeyList) (n : ℕ) (a : Archive) (ts : List (Tree Label Content)) (kept : rules_kept K ≡ true) (notation : contexts_in_notation K ≡ true)
    → LegalArchive K n a → All (LegalTree K) ts → LegalArchive K (n + length ts) (gather (merge_s labels contents) n a ts)
unfolding gather
gather-lawful K n a [] kept notation x y = let e : n ≡ n + 0 = omega arith in subst (λ m. LegalArchive K m a) e x
gather-lawful K n a (t ∷ ts) kept notation x y =
    let e : suc n + length ts ≡ n + length (t ∷ ts) = omega arith in
    subst (λ m. LegalArchive K m (gather (merge_s labels contents) (suc n) (merge_s labels contents n a t) ts)) e
    (gather-lawful K (suc n) (merge_s labels contents n a t) ts kept notation (merge-lawful K n a t kept notation x y.0) y.1)

pub archive-legal-tree : (K : KeyList) (ts : List (Tree Label Content)) (kept : rules_kept K ≡ true) (notation : contexts_in_notation K ≡ true)
    → All (LegalTree K) ts → LegalArchive K (length ts) (gather (merge_s labels contents) 0 nil ts)
unfolding WFBy Lawful
archive-legal-tree K ts kept notation y =
    let e : 0 + length ts ≡ length ts = omega arith in
    subst (λ m. LegalArchive K m (gather (merge_s labels contents) 0 nil ts)) e
    (gather-lawful K 0 nil ts kept notation (record { formed = tt; lawful = tt; rooted = tt }) y)
