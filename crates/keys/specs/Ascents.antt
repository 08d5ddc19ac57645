-- A version in the order of its written form, with no element twice, has a tree whose labels ascend.
use Rattle.std.specs.Prelude.{◌≡◌, Bool}
use Rattle.std.proofs.Math.Path.{refl, subst}
use Rattle.std.proofs.Common.{ap, sym}
use Rattle.std.proofs.Math.Bool.{true, false}
use Rattle.std.proofs.Math.Option.{Option, some}
use mathlib.Core.Ordering.{Ordering, lt, eq, gt}
use Rattle.xml.specs.Bytes.{Bytes}
use Rattle.xml.specs.Forest.{Forest, end, elem, text, stamp}
use Rattle.model.specs.Keyed.{Tree, nil, node, flop, Before, Ascending}
use Rattle.model.specs.Orders.{labels, is_eq, is_lt}
use Rattle.model.specs.Masks.{clash}
use Rattle.xml.specs.Truth.{bool_by, and-false}
use Rattle.keys.specs.KeyList.{Path, KeyList, above}
use Rattle.keys.specs.Version.{◌▸◌, Label, label, same_label, before, find, is_some, doubled, insert_by, ordered}
use Rattle.keys.specs.Tree.{Content, keyed}
use Rattle.keys.specs.SiblingLaws.{before-turn}
use Rattle.keys.specs.Sorting.{ordered-elem}
use Rattle.keys.specs.TreeParts.{kids_of, keyed-elem, three-false}

-- siblings in order, where two may have the same label
abbrev NotAfter : Label → Tree Label Content → Type 0
NotAfter l nil = Unit {0}
NotAfter l (node m c k r) = before m l ≡ false

abbrev Rising : Tree Label Content → Type 0
Rising nil = Unit {0}
Rising (node l c k r) = NotAfter l r × Rising k × Rising r

rising-kids : (b : Bool) (t : Tree Label Content) → (b ≡ true → Rising t) → Rising (kids_of b t)
rising-kids true t h = h refl
rising-kids false t h = tt

module _ (K : KeyList) where
  rising-elem : (p : Path) (n : Bytes) (k r : Forest) → NotAfter (label K p n k) (keyed K p r) → (above K (p ▸ n) ≡ true → Rising (keyed K (p ▸ n) k)) → Rising (keyed K p r)
      → Rising (keyed K p (elem n k r))
  rising-elem p n k r a h i = rw (keyed-elem K p n k r) (a, rising-kids (above K (p ▸ n)) (keyed K (p ▸ n) k) h, i)

  after-elem : (p : Path) (l : Label) (n : Bytes) (k r : Forest) → before (label K p n k) l ≡ false → NotAfter l (keyed K p (elem n k r))
  after-elem p l n k r e = rw (keyed-elem K p n k r) e

  elem-after : (p : Path) (l : Label) (n : Bytes) (k r : Forest) → NotAfter l (keyed K p (elem n k r)) → before (label K p n k) l ≡ false
  elem-after p l n k r e = rw (keyed-elem K p n k r) at e

  elem-rising : (p : Path) (n : Bytes) (k r : Forest) → Rising (keyed K p (elem n k r))
      → NotAfter (label K p n k) (keyed K p r) × Rising (kids_of (above K (p ▸ n)) (keyed K (p ▸ n) k)) × Rising (keyed K p r)
  elem-rising p n k r h = rw (keyed-elem K p n k r) at h

  -- an element at its place
  after-insert : (p : Path) (l : Label) (n : Bytes) (k r : Forest) → before (label K p n k) l ≡ false → NotAfter l (keyed K p r) → NotAfter l (keyed K p (insert_by K p n k r))
  unfolding keyed insert_by
  after-insert p l n k end e a = after-elem p l n k end e
  after-insert p l n k (text b r) e a = after-insert p l n k r e a
  after-insert p l n k (stamp t j r) e a = after-insert p l n k r e a
  after-insert p l n k (elem m j r) e a = bool_by
      (λ b. NotAfter l (keyed K p (elim b as (λ _. Forest) [ true ↦ elem n k (elem m j r) | false ↦ elem m j (insert_by K p n k r) ])))
      (before (label K p n k) (label K p m j))
      (λ _. after-elem p l n k (elem m j r) e)
      (λ _. after-elem p l m j (insert_by K p n k r) (elem-after p l m j r a))

  rising-insert : (p : Path) (n : Bytes) (k r : Forest) → (above K (p ▸ n) ≡ true → Rising (keyed K (p ▸ n) k)) → Rising (keyed K p r) → Rising (keyed K p (insert_by K p n k r))
  unfolding keyed insert_by
  rising-insert p n k end h i = rising-elem p n k end tt h tt
  rising-insert p n k (text b r) h i = rising-insert p n k r h i
  rising-insert p n k (stamp t j r) h i = rising-insert p n k r h i
  rising-insert p n k (elem m j r) h i = bool_by
      (λ b. Rising (keyed K p (elim b as (λ _. Forest) [ true ↦ elem n k (elem m j r) | false ↦ elem m j (insert_by K p n k r) ])))
      (before (label K p n k) (label K p m j))
      (λ e. rising-elem p n k (elem m j r) (after-elem p (label K p n k) m j r (before-turn (label K p n k) (label K p m j) e)) h i)
      (λ e. rw (keyed-elem K p m j (insert_by K p n k r))
      (let w = elem-rising p m j r i in (after-insert p (label K p m j) n k r e w.0, w.1, rising-insert p n k r h w.2)))

  rising : (p : Path) (f : Forest) → above K p ≡ true → Rising (keyed K p (ordered K p f))
  unfolding keyed ordered
  rising p end a = tt
  rising p (text b r) a = rising p r a
  rising p (stamp t k r) a = rising p r a
  rising p (elem n k r) a = subst (λ f. Rising (keyed K p f)) (sym (ordered-elem K p n k r a))
      (rising-insert p n (ordered K (p ▸ n) k) (ordered K p r) (λ e. rising (p ▸ n) k e) (rising p r a))

  -- and with no element twice
  first-only : (p : Path) (l : Label) (r : Forest) → is_some (find K p l r) ≡ false → NotAfter l (keyed K p r) → Before labels l (keyed K p r)
  unfolding keyed find is_some same_label before
  first-only p l end e a = tt
  first-only p l (text b r) e a = first-only p l r e a
  first-only p l (stamp t k r) e a = first-only p l r e a
  first-only p l (elem n k r) e a = rw (keyed-elem K p n k r) (go (labels.cmp l (label K p n k)) refl e)
    where
      go : (o : Ordering) → labels.cmp l (label K p n k) ≡ o → is_some {A = Forest} (elim (is_eq o) as (λ _. Option Forest) [ true ↦ some k | false ↦ find K p l r ]) ≡ false → labels.cmp l (label K p n k) ≡ lt
      go lt q e = q
      go eq q e = absurd (clash refl e)
      go gt q e = absurd (clash (ap is_lt (flop labels q)) (elem-after p l n k r a))

  ascending-kids : (b : Bool) (t : Tree Label Content) → (b ≡ true → Rising t → Ascending labels t) → Rising (kids_of b t) → Ascending labels (kids_of b t)
  unfolding Ascending
  ascending-kids true t h i = h refl i
  ascending-kids false t h i = tt

  ascending-elem : (p : Path) (n : Bytes) (k r : Forest) → Before labels (label K p n k) (keyed K p r) → Ascending labels (kids_of (above K (p ▸ n)) (keyed K (p ▸ n) k)) → Ascending labels (keyed K p r)
      → Ascending labels (keyed K p (elem n k r))
  unfolding Ascending
  ascending-elem p n k r b h i = rw (keyed-elem K p n k r) (b, h, i)

  pub elem-ascending : (p : Path) (n : Bytes) (k r : Forest) → Ascending labels (keyed K p (elem n k r))
      → Before labels (label K p n k) (keyed K p r) × Ascending labels (kids_of (above K (p ▸ n)) (keyed K (p ▸ n) k)) × Ascending labels (keyed K p r)
  unfolding Ascending
  elem-ascending p n k r h = rw (keyed-elem K p n k r) at h

  strictly : (p : Path) (f : Forest) → above K p ≡ true → doubled K p f ≡ false → Rising (keyed K p f) → Ascending labels (keyed K p f)
  unfolding keyed doubled Ascending
  strictly p end a d h = tt
  strictly p (text b r) a d h = strictly p r a d h
  strictly p (stamp t k r) a d h = strictly p r a d h
  strictly p (elem n k r) a d h =
      let w = elem-rising p n k r h in
      let e = three-false _ _ _ d in
      ascending-elem p n k r
      (first-only p (label K p n k) r (and-false a e.0) w.0)
      (ascending-kids (above K (p ▸ n)) (keyed K (p ▸ n) k) (λ b i. strictly (p ▸ n) k b e.1 i) w.1)
      (strictly p r a e.2 w.2)

  pub ascending : (p : Path) (f : Forest) → above K p ≡ true → doubled K p f ≡ false → ordered K p f ≡ f → Ascending labels (keyed K p f)
  ascending p f a d o = strictly p f a d (subst (λ g. Rising (keyed K p g)) o (rising p f a))
