-- A version more, on the forest of an archive: adding there comes to merging.
use Rattle.std.specs.Prelude.{ℕ, suc, ◌≤◌, ◌≡◌, Bool, true, false, [], length, replicate}
use Rattle.std.proofs.Common.{arith, ◌∙◌, subst, add-one}
use Rattle.std.proofs.Math.Path.{refl, sym, ap, fun_ext}
use Rattle.std.proofs.Math.Option.{some}
use mathlib.Core.Ordering.{Ordering}
use Rattle.std.proofs.lemmas.List.{replicate-append-replicate}
use Rattle.xml.specs.Bytes.{Bytes}
use Rattle.xml.specs.Forest.{Forest, end, elem, stamp}
use Rattle.model.specs.Keyed.{Tree, nil, node, any, ◌▷◌, three, Before, Ascending, WFBy, self, flip}
use Rattle.model.specs.Masks.{is_true}
use Rattle.model.specs.Merged.{done, old, new, both, zipped}
use Rattle.model.specs.Orders.{labels}
use Rattle.model.specs.Groups.{Groups, add_g}
use Rattle.model.specs.Stored.{mask_g, merge_s, WFS, length-mask_g}
use Rattle.keys.specs.KeyList.{Path, KeyList, above, rules_kept}
use Rattle.xml.specs.Truth.{bool_by}
use Rattle.keys.specs.Version.{◌▸◌, Label, label, name_in}
use Rattle.keys.specs.Tree.{Content, inner, front, contents, keyed, held_by, forest_of}
use Rattle.keys.specs.Legal.{LegalVersion, Kind, Lawful, InnerContent, FrontContent, LawfulVersion}
use Rattle.keys.specs.TreeLabels.{named}
use Rattle.keys.specs.TreeLaws.{legal-tree}
use Rattle.keys.specs.TreeParts.{forest-tree}
use Rattle.timestamp.specs.Times.{Times, same_times, always, write_times}
use Rattle.timestamp.specs.TimesLaws.{times-is}
use Rattle.versions.specs.Archive.{Archive, wrap, holding, stamped, archive_forest}
use Rattle.versions.specs.Lawful.{InnerEntry, FrontEntry, LawfulArchive, LegalArchive}
use Rattle.versions.specs.BackLaws.{any-always}
use Rattle.versions.specs.Walk.{inside_of, newest, add_content, add_new, add_at, add_in, add_forest}
use Rattle.versions.specs.SetLaws.{times_in-write}
use Rattle.versions.specs.StampedLabels.{held_inner, wrap-bare, label-stamped}
use Rattle.versions.specs.AddContents.{same_more, wrap-other, add-front, inner-one}
use Rattle.versions.specs.AddWritten.{content, Merging, written-old, written_new, written_both}

-- ---- adding, sibling by sibling
module _ (K : KeyList) (rules : rules_kept K ≡ true) (n : ℕ) (u : n ≤ 999) where
  -- what an element in both comes to hold
  abbrev inside : Path → Bytes → Times → Forest → Forest → Forest
  inside p m t k f = elim (above K (p ▸ m)) [ true ↦ add_in K n (p ▸ m) t k f | false ↦ add_content n t f k ]

  module _ (p : Path) (parent : Times) where
    in-elem : (t : Times) (m : Bytes) (k r v : Forest) → length t ≡ n → add_in K n p parent (wrap parent t (elem m k) r) v
        ≡ add_at K n p (label K p m k) (stamp (write_times t) (elem m k end)) (λ f rest. wrap (parent ▷ true) (t ▷ true) (elem m (inside p m t k f)) rest) (add_in K n p parent r) v
    unfolding add_in
    in-elem t m k r v e = bool_by (λ _. add_in K n p parent (wrap parent t (elem m k) r) v ≡ after t) (same_times parent t) same_set_lem other
      where
        after : Times → Forest
        after t = add_at K n p (label K p m k) (stamp (write_times t) (elem m k end)) (λ f rest. wrap (parent ▷ true) (t ▷ true) (elem m (inside p m t k f)) rest) (add_in K n p parent r) v

        same_set_lem : same_times parent t ≡ true → add_in K n p parent (wrap parent t (elem m k) r) v ≡ after t
        same_set_lem d =
            subst (λ t. add_in K n p parent (wrap parent t (elem m k) r) v ≡ after t) (times-is parent t d)
            (ap (λ f. add_in K n p parent f v) (wrap-bare parent (elem m k) r)
            ∙ ap (λ w. add_at K n p (label K p m k) (stamp (write_times parent) (elem m k end)) w (add_in K n p parent r) v)
            (fun_ext (λ f. fun_ext (λ rest. sym (wrap-bare (parent ▷ true) (elem m (inside p m parent k f)) rest)))))

        other : same_times parent t ≡ false → add_in K n p parent (wrap parent t (elem m k) r) v ≡ after t
        other d =
            ap (λ f. add_in K n p parent f v) (wrap-other parent t (elem m k) r d)
            ∙ ap (λ s. add_at K n p (label K p m k) (stamp (write_times t) (elem m k end)) (λ f rest. stamp (write_times (s ▷ true)) (elem m (inside p m s k f) end) rest) (add_in K n p parent r) v)
            (times_in-write n t e u)
            ∙ ap (λ w. add_at K n p (label K p m k) (stamp (write_times t) (elem m k end)) w (add_in K n p parent r) v)
            (fun_ext (λ f. fun_ext (λ rest. sym (wrap-other (parent ▷ true) (t ▷ true) (elem m (inside p m t k f)) rest (same_more parent t true ∙ d)))))

    -- an element of the archive
    in-node : (l : Label) (gs : Groups Content) (k r : Archive) (v : Forest) → WFS labels contents n (node l gs k r) → LawfulArchive K n p (node l gs k r)
        → add_in K n p parent (stamped n parent (node l gs k r)) v
        ≡ add_at K n p l (stamp (write_times (mask_g n gs)) (elem (name_in l) (content n gs k) end))
        (λ f rest. wrap (parent ▷ true) (mask_g n gs ▷ true) (elem (name_in l) (inside p (name_in l) (mask_g n gs) (content n gs k) f)) rest) (add_in K n p parent (stamped n parent r)) v
    unfolding stamped WFBy
    in-node l gs k r v w h =
        in-elem (mask_g n gs) (name_in l) (content n gs k) (stamped n parent r) v (length-mask_g contents n gs w.0)
        ∙ ap (λ (x : Label). add_at K n p x (stamp (write_times (mask_g n gs)) (elem (name_in l) (content n gs k) end))
        (λ f rest. wrap (parent ▷ true) (mask_g n gs ▷ true) (elem (name_in l) (inside p (name_in l) (mask_g n gs) (content n gs k) f)) rest) (add_in K n p parent (stamped n parent r)) v)
        (label-stamped K n p l gs k r rules w h)

    -- the version's next element, before it, the same or after it
    at-node : (l m : Label) (older : Forest → Forest) (joint : Forest → Forest → Forest) (rest : Forest → Forest) (c : Content) (k r : Tree Label Content) {o : Ordering}
        → Ascending labels (node m c k r) → LawfulVersion K p (node m c k r) → labels.cmp l m ≡ o
        → add_at K n p l older joint rest (forest_of (node m c k r))
        ≡ three o (older (rest (forest_of (node m c k r)))) (joint (held_by c (forest_of k)) (rest (forest_of r))) (newest n (elem (name_in m) (held_by c (forest_of k)) end) (add_at K n p l older joint rest (forest_of r)))
    unfolding add_at forest_of Ascending
    at-node l m older joint rest c k r s h e =
        ap (λ o. three o (older (rest (forest_of (node m c k r)))) (joint (held_by c (forest_of k)) (rest (forest_of r))) (newest n (elem (name_in m) (held_by c (forest_of k)) end) (add_at K n p l older joint rest (forest_of r))))
        (ap (labels.cmp l) (named K p rules m c k r s.1 h).is ∙ e)

    at_none : (l : Label) (older : Forest → Forest) (joint : Forest → Forest → Forest) (rest : Forest → Forest) (t : Tree Label Content)
        → Ascending labels t → LawfulVersion K p t → Before labels l t → add_at K n p l older joint rest (forest_of t) ≡ older (rest (forest_of t))
    unfolding add_at forest_of
    at_none l older joint rest nil s h b = refl
    at_none l older joint rest (node m c k r) s h b = at-node l m older joint rest c k r s h b

    -- an element that only the version has
    in-new : (a : Archive) (l : Label) (c : Content) (k r : Tree Label Content) → WFS labels contents n a → LawfulArchive K n p a
        → Ascending labels (node l c k r) → LawfulVersion K p (node l c k r) → Before labels l a
        → add_in K n p parent (stamped n parent a) (forest_of (node l c k r)) ≡ newest n (elem (name_in l) (held_by c (forest_of k)) end) (add_in K n p parent (stamped n parent a) (forest_of r))
    unfolding add_in add_new stamped forest_of
    in-new nil l c k r w h s g b = refl
    in-new (node m gs j q) l c k r w h s g b =
        in-node m gs j q (forest_of (node l c k r)) w h ∙ at-node m l _ _ _ c k r s g (flip labels b)
        ∙ ap (newest n (elem (name_in l) (held_by c (forest_of k)) end)) (sym (in-node m gs j q (forest_of r) w h))

  -- what an element in both holds
  inside_both : (p : Path) (l : Label) (gs : Groups Content) (k r : Archive) (c : Content) (j q : Tree Label Content) (m : Archive)
      → WFS labels contents n (node l gs k r) → LawfulArchive K n p (node l gs k r) → LawfulVersion K p (node l c j q)
      → add_in K n (p ▸ name_in l) (mask_g n gs) (stamped n (mask_g n gs) k) (forest_of j) ≡ stamped (suc n) (mask_g n gs ▷ true) m
      → inside p (name_in l) (mask_g n gs) (content n gs k) (held_by c (forest_of j)) ≡ holding (add_g contents n gs (some c)) (stamped (suc n) (mask_g n gs ▷ true) m)
  unfolding WFBy Lawful
  inside_both p l gs k r c j q m w h g ih = go (above K (p ▸ name_in l)) c h.3 g.3
    where
      kids : Forest
      kids = stamped n (mask_g n gs) k

      more : Forest
      more = stamped (suc n) (mask_g n gs ▷ true) m

      go : (b : Bool) (c : Content) → Kind InnerEntry FrontEntry b gs k → Kind InnerContent FrontContent b c j
          → elim b as (λ _. Forest) [ true ↦ add_in K n (p ▸ name_in l) (mask_g n gs) (holding gs kids) (held_by c (forest_of j)) | false ↦ add_content n (mask_g n gs) (held_by c (forest_of j)) (holding gs kids) ]
          ≡ holding (add_g contents n gs (some c)) more
      go true inner x y = ap (λ f. add_in K n (p ▸ name_in l) (mask_g n gs) f (forest_of j)) (held_inner n gs kids w.0 x) ∙ ih ∙ sym (inner-one n gs more w.1 w.0 x)
      go true (front f) x y = absurd y
      go false inner x y = absurd y.0
      go false (front f) x y = add-front n u f gs kids more w.1 w.0 x.0

  -- siblings that merge to m: along the graph of merging
  add-zip : {a : Archive} {t : Tree Label Content} {m : Archive} → Merging n a t m → (p : Path) (parent : Times) → any parent ≡ true
      → WFS labels contents n a → LawfulArchive K n p a → Ascending labels t → LawfulVersion K p t → add_in K n p parent (stamped n parent a) (forest_of t) ≡ stamped (suc n) (parent ▷ true) m
  unfolding add_in add_new stamped forest_of WFBy Lawful Ascending
  add-zip done p parent e w h s g = refl
  add-zip (old {l = l} {h = gs} {k = k} {r = r} {rm = rm} {v = t} b z y) p parent e w h s g =
      in-node p parent l gs k r (forest_of t) w h ∙ at_none p parent l _ _ _ t s g b
      ∙ sym (written-old n parent l rm (sym (add-zip y p parent e w.5 h.6 s g)) gs k w.0 w.4 z)
  add-zip (new {l = l} {c = c} {k = k} {r = r} {a = a} {rm = rm} b z y) p parent e w h s g =
      in-new p parent a l c k r w h s g b ∙ sym (written_new n parent l rm (sym (add-zip y p parent e w h s.2 g.6)) c k e z)
  add-zip (both {l = l} {h = gs} {c = c} {k = k} {r = r} {km = km} {rm = rm} {k' = j} {r' = q} z y) p parent e w h s g =
      in-node p parent l gs k r (forest_of (node l c j q)) w h ∙ at-node p parent l l _ _ _ c j q s g (self labels l)
      ∙ ap (λ f. wrap (parent ▷ true) (mask_g n gs ▷ true) (elem (name_in l) f) (add_in K n p parent (stamped n parent r) (forest_of q)))
      (inside_both p l gs k r c j q km w h g (add-zip z (p ▸ name_in l) (mask_g n gs) (is_true (any (mask_g n gs)) w.1) w.4 h.5 s.1 g.5))
      ∙ sym (written_both n parent l rm (sym (add-zip y p parent e w.5 h.6 s.2 g.6)) gs c km w.0)

  pub add-siblings : (p : Path) (parent : Times) (a : Archive) (t : Tree Label Content) → any parent ≡ true → WFS labels contents n a → LawfulArchive K n p a → Ascending labels t → LawfulVersion K p t
      → add_in K n p parent (stamped n parent a) (forest_of t) ≡ stamped (suc n) (parent ▷ true) (merge_s labels contents n a t)
  add-siblings p parent a t e w h s g = add-zip (zipped labels _ _ a t) p parent e w h s g

-- ---- the archive
always-more : (n : ℕ) → always n ▷ true ≡ always (suc n)
unfolding always
always-more n = replicate-append-replicate n 1 true ∙ ap (λ m. replicate m true) (add-one n)

pub add-archive : (K : KeyList) (n : ℕ) (a : Archive) (v : Forest) → rules_kept K ≡ true → LegalArchive K n a → 1 ≤ n → suc n ≤ 999 → LegalVersion K v
    → add_forest K n v (archive_forest n a) ≡ archive_forest (suc n) (merge_s labels contents n a (keyed K [] v))
unfolding add_forest archive_forest inside_of
add-archive K n a v rules h i u g =
    let t = legal-tree K v rules g in
    ap (λ f. stamp (write_times (always (suc n))) f end)
    (ap (add_in K n [] (always n) (stamped n (always n) a)) (sym (forest-tree K v g))
    ∙ add-siblings K rules n (omega arith) [] (always n) a (keyed K [] v) (any-always n i) h.formed h.lawful t.ascends t.lawful
    ∙ ap (λ s. stamped (suc n) s (merge_s labels contents n a (keyed K [] v))) (always-more n))
