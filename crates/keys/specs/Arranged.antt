-- What an element holds, in the order of its written form: its elements in order, each with what it holds arranged in turn.
use Rattle.std.specs.Prelude.{◌≤◌, Bool, ◌&&◌}
use Rattle.std.proofs.Common.{arith, sym, ◌∙◌}
use Rattle.std.proofs.Math.Path.{◌≡◌, refl, ap}
use Rattle.std.proofs.Math.Bool.{true, false}
use Rattle.xml.specs.Bytes.{Bytes, all, is_white}
use Rattle.xml.specs.Truth.{clash, bool_by}
use Rattle.xml.specs.Forest.{Forest, end, elem, text, stamp}
use Rattle.xml.specs.Tape.{size}
use Rattle.keys.specs.KeyList.{Path, KeyList, above, key_names_at, rules_kept}
use Rattle.keys.specs.Version.{◌▸◌, label, drop_white, misplaced, unkeyed, insert_by, ordered}
use Rattle.keys.specs.Sorting.{misplaced-kids, misplaced-rest, ordered-elem, sorted}
use Rattle.keys.specs.SortedKept.{sorted-size}
use Rattle.keys.specs.SortedKeys.{sorted-label, keyed-here, keyed-kids, keyed-rest}
use Rattle.keys.specs.DropLaws.{label-drop, unkeyed-drop}
use Rattle.keys.specs.Labelled.{has_keys}
use Rattle.keys.specs.Siblings.{elements, tags, Each, each_with, in_order}
use Rattle.keys.specs.SiblingLaws.{LabelKept, each-order, insert-with}

-- what an element of path p holds, in the order of its written form
abbrev pub arranged : KeyList → Path → Forest → Forest
arranged K p f = ordered K p (drop_white K p f)

-- siblings, each with what it holds in that order
abbrev pub each_arranged : KeyList → Path → Forest → Forest
each_arranged K p f = each_with (λ n k. arranged K (p ▸ n) k) f

-- what is known of each element
pub record Kid (K : KeyList) (p : Path) (n : Bytes) (k : Forest) : Type 0 where
  pub placed : misplaced K (p ▸ n) (drop_white K (p ▸ n) k) ≡ false
  pub once : has_keys (key_names_at K (p ▸ n)) k ≡ true
  pub keyed : unkeyed K (p ▸ n) k ≡ false
  pub label_is : label K p n (arranged K (p ▸ n) k) ≡ label K p n k

-- ---- no more elements than nodes are left
few-tags : (K : KeyList) (p : Path) (f : Forest) → tags f ≤ size (drop_white K p f)
unfolding tags size drop_white
few-tags K p end = omega arith
few-tags K p (elem n k r) = omega (arith, few-tags K (p ▸ n) k, few-tags K p r)
few-tags K p (stamp t k r) = omega (arith, few-tags K p k, few-tags K p r)
few-tags K p (text b r) =
    let i = few-tags K p r in
    bool_by (λ x. tags r ≤ size (elim x as (λ _. Forest) [ true ↦ drop_white K p r | false ↦ text b (drop_white K p r) ])) (above K p && all is_white b) (λ _. i) (λ _. omega arith)

pub arranged-tags : (K : KeyList) (p : Path) (f : Forest) → misplaced K p (drop_white K p f) ≡ false → tags f ≤ size (arranged K p f)
arranged-tags K p f m = rw (sorted-size K (sorted K p (drop_white K p f) m)) (few-tags K p f)

-- ---- siblings above the frontiers that have passed 7 and 8
module _ (K : KeyList) (p : Path) (rules : rules_kept K ≡ true) (high : above K p ≡ true) where
  drop-elem : (n : Bytes) (k r : Forest) → drop_white K p (elem n k r) ≡ elem n (drop_white K (p ▸ n) k) (drop_white K p r)
  unfolding drop_white
  drop-elem n k r = refl

  text-misplaced : (b : Bytes) (r : Forest) → misplaced K p (text b r) ≡ true
  unfolding misplaced
  text-misplaced b r = rw high

  -- text is dropped, since what is not dropped is refused
  drop-text : (b : Bytes) (r : Forest) → misplaced K p (drop_white K p (text b r)) ≡ false → drop_white K p (text b r) ≡ drop_white K p r
  unfolding drop_white
  drop-text b r m = go (all is_white b) refl m
    where
      go : (x : Bool) → all is_white b ≡ x → misplaced K p (elim (above K p && all is_white b) as (λ _. Forest) [ true ↦ drop_white K p r | false ↦ text b (drop_white K p r) ]) ≡ false
          → ◌≡◌ {A = Forest} (elim (above K p && all is_white b) as (λ _. Forest) [ true ↦ drop_white K p r | false ↦ text b (drop_white K p r) ]) (drop_white K p r)
      go true e h = rw (high, e) refl
      go false e h = let z : misplaced K p (text b (drop_white K p r)) ≡ false = rw (high, e) at h in clash (sym (text-misplaced b (drop_white K p r)) ∙ z)

  arranged-elem : (n : Bytes) (k r : Forest) → arranged K p (elem n k r) ≡ insert_by K p n (arranged K (p ▸ n) k) (arranged K p r)
  arranged-elem n k r = ap (ordered K p) (drop-elem n k r) ∙ ordered-elem K p n (drop_white K (p ▸ n) k) (drop_white K p r) high

  -- the children of an element have passed 7 and 8, and sorting them leaves its label
  label-arranged : (n : Bytes) (k r : Forest) → misplaced K p (drop_white K p (elem n k r)) ≡ false → unkeyed K p (elem n k r) ≡ false
      → label K p n (arranged K (p ▸ n) k) ≡ label K p n k
  label-arranged n k r m u =
      sorted-label K p n (drop_white K (p ▸ n) k) (drop_white K p r) (ap (unkeyed K p) (sym (drop-elem n k r)) ∙ unkeyed-drop K rules p (elem n k r) ∙ u)
      (sorted K (p ▸ n) (drop_white K (p ▸ n) k) (misplaced-kids K p n (drop_white K (p ▸ n) k) (drop_white K p r) (rw (drop-elem n k r) at m)))
      ∙ label-drop K rules p n k

  stamp-misplaced : (t : Bytes) (k r : Forest) → misplaced K p (drop_white K p (stamp t k r)) ≡ false → ⊥
  unfolding misplaced drop_white
  stamp-misplaced t k r e = clash e

  kids-each : (f : Forest) → misplaced K p (drop_white K p f) ≡ false → unkeyed K p f ≡ false → Each (Kid K p) f
  kids-each end m u = tt
  kids-each (text b r) m u = kids-each r (ap (misplaced K p) (sym (drop-text b r m)) ∙ m) (unfold unkeyed in u)
  kids-each (stamp t k r) m u = absurd (stamp-misplaced t k r m)
  kids-each (elem n k r) m u =
      let w : misplaced K p (elem n (drop_white K (p ▸ n) k) (drop_white K p r)) ≡ false = rw (drop-elem n k r) at m in (
        record {
          placed = misplaced-kids K p n (drop_white K (p ▸ n) k) (drop_white K p r) w;
          once = keyed-here K p n k r u;
          keyed = keyed-kids K p n k r u;
          label_is = label-arranged n k r m u;
        },
        kids-each r (misplaced-rest K p n (drop_white K (p ▸ n) k) (drop_white K p r) w) (keyed-rest K p n k r u),
      )

  labels-kept : (f : Forest) → Each (Kid K p) f → Each (LabelKept K p (λ n k. arranged K (p ▸ n) k)) f
  labels-kept end h = tt
  labels-kept (text b r) h = labels-kept r h
  labels-kept (stamp t k r) h = labels-kept r h
  labels-kept (elem n k r) h = (h.0.label_is, labels-kept r h.1)

  arranged-each : (f : Forest) → misplaced K p (drop_white K p f) ≡ false → Each (Kid K p) f → arranged K p f ≡ each_arranged K p (in_order K p (elements f))
  unfolding in_order elements
  arranged-each end m h = unfold drop_white ordered each_with in refl
  arranged-each (text b r) m h = ap (ordered K p) (drop-text b r m) ∙ arranged-each r (ap (misplaced K p) (sym (drop-text b r m)) ∙ m) h
  arranged-each (stamp t k r) m h = absurd (stamp-misplaced t k r m)
  arranged-each (elem n k r) m h =
      let w : misplaced K p (elem n (drop_white K (p ▸ n) k) (drop_white K p r)) ≡ false = rw (drop-elem n k r) at m in
      arranged-elem n k r ∙ ap (insert_by K p n (arranged K (p ▸ n) k)) (arranged-each r (misplaced-rest K p n (drop_white K (p ▸ n) k) (drop_white K p r) w) h.1)
      ∙ insert-with K p (λ m j. arranged K (p ▸ m) j) n k (in_order K p (elements r)) h.0.label_is (each-order K p (LabelKept K p (λ m j. arranged K (p ▸ m) j)) r (labels-kept r h.1))

  module _ (f : Forest) (placed : misplaced K p (drop_white K p f) ≡ false) (keyed : unkeyed K p f ≡ false) where
    pub order-kids : Each (Kid K p) (in_order K p (elements f))
    order-kids = each-order K p (Kid K p) f (kids-each f placed keyed)

    pub arranged-order : arranged K p f ≡ each_arranged K p (in_order K p (elements f))
    arranged-order = arranged-each f placed (kids-each f placed keyed)
