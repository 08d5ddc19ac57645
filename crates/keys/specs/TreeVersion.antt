-- The forest of a legal tree is a legal version, and that tree is read back from it.
use Rattle.std.specs.Prelude.{◌≡◌, Bool, true, false, []}
use Rattle.std.proofs.Math.Path.{refl, ap}
use Rattle.std.proofs.Common.{sym, ◌∙◌, ap₂}
use Rattle.std.proofs.Math.Option.{none}
use Rattle.model.specs.Keyed.{Tree, nil, node, Before, Ascending}
use Rattle.model.specs.Looked.{before-trans}
use Rattle.model.specs.Orders.{labels, is_eq, is_lt}
use Rattle.xml.specs.Forest.{Forest, elem, Tidy}
use Rattle.keys.specs.KeyList.{Path, KeyList, rules_kept, above}
use Rattle.keys.specs.Version.{◌▸◌, Label, too_large, misplaced, unkeyed, label, name_in, same_label, before, find, is_some, doubled, insert_by, ordered}
use Rattle.keys.specs.Tree.{Content, inner, front, keyed, held_by, forest_of}
use Rattle.keys.specs.Legal.{RootOrNone, LegalVersion, Kind, Lawful, InnerContent, FrontContent, LawfulVersion, AtMostOne, LegalTree}
use Rattle.xml.specs.Truth.{or-both}
use Rattle.keys.specs.KeyListLaws.{root-above}
use Rattle.keys.specs.Beneath.{front-placed, front-keyed, front-single, front_ordered}
use Rattle.keys.specs.TreeLabels.{named}

-- ---- siblings whose labels ascend
module _ (K : KeyList) (p : Path) where
  abbrev Labelled : Tree Label Content → Type 0
  Labelled nil = Unit {0}
  Labelled (node l e k r) = (label K p (name_in l) (held_by e (forest_of k)) ≡ l) × Labelled r

  labelled : rules_kept K ≡ true → (t : Tree Label Content) → Ascending labels t → LawfulVersion K p t → Labelled t
  unfolding Ascending Lawful
  labelled u nil c h = tt
  labelled u (node l e k r) c h = ((named K p u l e k r c.1 h).is, labelled u r c.2 h.6)

  -- a label before them is none of theirs
  find_none : (l : Label) (t : Tree Label Content) → Before labels l t → Ascending labels t → Labelled t → find K p l (forest_of t) ≡ none
  unfolding find forest_of Ascending same_label
  find_none l nil b c g = refl
  find_none l (node m e k r) b c g = rw (ap (λ x. is_eq (labels.cmp l x)) g.0 ∙ ap is_eq b, find) (find_none l r (before-trans labels r b c.0) c.2 g.1)

  -- an element before them is put first
  insert-first : (l : Label) (h : Forest) → label K p (name_in l) h ≡ l → (t : Tree Label Content) → Before labels l t → Labelled t → insert_by K p (name_in l) h (forest_of t) ≡ elem (name_in l) h (forest_of t)
  unfolding insert_by forest_of before
  insert-first l h d nil b g = refl
  insert-first l h d (node m e k r) b g = rw (ap₂ (λ x y. is_lt (labels.cmp x y)) d g.0 ∙ ap is_lt b, insert_by)

-- ---- what an element holds
record Held (K : KeyList) (q : Path) (f : Forest) : Type 0 where
  tidy : Tidy false f
  placed : misplaced K q f ≡ false
  keys : unkeyed K q f ≡ false
  single : doubled K q f ≡ false
  ascends : ordered K q f ≡ f

-- siblings of a tree
record Good (K : KeyList) (p : Path) (t : Tree Label Content) : Type 0 where
  held : Held K p (forest_of t)
  back : keyed K p (forest_of t) ≡ t

module _ (K : KeyList) (p : Path) (l : Label) (e : Content) (k r : Tree Label Content) (u : rules_kept K ≡ true) (a : above K p ≡ true)
    (c : Ascending labels (node l e k r)) (h : LawfulVersion K p (node l e k r)) (g : Good K p r) where
  -- an element and its siblings
  next : Held K (p ▸ name_in l) (held_by e (forest_of k)) → keyed K p (forest_of (node l e k r)) ≡ node l e k (keyed K p (forest_of r)) → Good K p (node l e k r)
  unfolding forest_of Ascending Lawful misplaced unkeyed doubled ordered is_some
  next i b =
      let n = named K p u l e k r c.1 h in
      let s = labelled K p u r c.2 h.6 in
      record {
        held = record {
          tidy = (h.0, i.tidy, g.held.tidy);
          placed = rw (h.1, a, h.2) (or-both (misplaced K (p ▸ name_in l) (held_by e (forest_of k))) _ i.placed g.held.placed);
          keys = rw n.once (or-both (unkeyed K (p ▸ name_in l) (held_by e (forest_of k))) _ i.keys g.held.keys);
          single = rw (a, n.is, find_none K p l r c.0 c.2 s) (or-both (doubled K (p ▸ name_in l) (held_by e (forest_of k))) _ i.single g.held.single);
          ascends = rw (a, ordered) (ap₂ (insert_by K p (name_in l)) i.ascends g.held.ascends ∙ insert-first K p l (held_by e (forest_of k)) n.is r c.0 s);
        };
        back = b ∙ ap (node l e k) g.back;
      }

-- ---- the tree
good : (K : KeyList) → rules_kept K ≡ true → (p : Path) → above K p ≡ true → (t : Tree Label Content) → Ascending labels t → LawfulVersion K p t → Good K p t
unfolding forest_of Ascending Lawful misplaced unkeyed doubled ordered keyed
good K u p a nil c h = record { held = record { tidy = tt; placed = refl; keys = refl; single = refl; ascends = refl }; back = refl }
good K u p a (node l e k r) c h =
    go (above K (p ▸ name_in l)) refl e h.3 (named K p u l e k r c.1 h).is
    (λ b. good K u (p ▸ name_in l) b k c.1 h.5) (next K p l e k r u a c h (good K u p a r c.2 h.6))
  where
    q : Path
    q = p ▸ name_in l

    go : (b : Bool) → above K q ≡ b → (e : Content) → Kind InnerContent FrontContent b e k → label K p (name_in l) (held_by e (forest_of k)) ≡ l → (above K q ≡ true → Good K q k)
        → (Held K q (held_by e (forest_of k)) → keyed K p (elem (name_in l) (held_by e (forest_of k)) (forest_of r)) ≡ node l e k (keyed K p (forest_of r)) → Good K p (node l e k r)) → Good K p (node l e k r)
    go true b inner w d ih f = f (ih b).held (rw (b, keyed) (ap₂ (λ x y. node x inner y (keyed K p (forest_of r))) d (ih b).back))
    go true b (front v) w d ih f = absurd w
    go false b inner w d ih f = absurd w.0
    go false b (front v) w d ih f =
        f (record { tidy = w.0.0; placed = front-placed K q v b w.0.1; keys = front-keyed K q v b; single = front-single K q v b; ascends = front_ordered K q v b })
        (rw (b, keyed) (ap₂ (λ x y. node x (front v) y (keyed K p (forest_of r))) d (sym w.1)))

sole-root : (t : Tree Label Content) → AtMostOne t → RootOrNone (forest_of t)
unfolding forest_of
sole-root nil s = tt
sole-root (node l e k r) s = ap forest_of s

pub tree-legal : (K : KeyList) (t : Tree Label Content) → rules_kept K ≡ true → LegalTree K t → too_large (forest_of t) ≡ false → LegalVersion K (forest_of t)
tree-legal K t u h s =
    let g = (good K u [] (root-above K u) t h.ascends h.lawful).held in
    record { tidy = g.tidy; root = sole-root t h.sole; small = s; placed = g.placed; keyed = g.keys; single = g.single; ascends = g.ascends }

pub tree-keyed : (K : KeyList) (t : Tree Label Content) → rules_kept K ≡ true → LegalTree K t → keyed K [] (forest_of t) ≡ t
tree-keyed K t u h = (good K u [] (root-above K u) t h.ascends h.lawful).back
