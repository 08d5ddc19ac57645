-- Laws of siblings: the labels among them, an element put in, one more after the others, and its place among those that ascend.
use Rattle.std.specs.Prelude.{◌≡◌, Bool, ◌||◌}
use Rattle.std.proofs.Math.Path.{refl, sym, ap, ap₂}
use Rattle.std.proofs.Common.{◌∙◌}
use Rattle.std.proofs.Math.Bool.{true, false}
use mathlib.Core.Ordering.{Ordering, lt, eq, gt}
use Rattle.xml.specs.Bytes.{Bytes}
use Rattle.xml.specs.Truth.{clash, bool_by, by-test, or_left, or_right, or_swap, or-first, or-second, or-both}
use Rattle.xml.specs.Forest.{Forest, end, elem, text, stamp, join}
use Rattle.model.specs.Keyed.{flip, flop, self}
use Rattle.model.specs.Orders.{labels, is_eq, is_lt}
use Rattle.keys.specs.KeyList.{Path, KeyList, above}
use Rattle.keys.specs.Version.{◌▸◌, Label, label, same_label, before, find, is_some, doubled, insert_by}
use Rattle.keys.specs.Sorting.{First, is-lt}
use Rattle.keys.specs.SortedKept.{find-elem}
use Rattle.keys.specs.SortedOnce.{same-turned}
use Rattle.keys.specs.Siblings.{is_among, Each, elements, each_with, in_order, twins, doubled_kids, Rises, Ends}

pub before-trans : (a b c : Label) → before a b ≡ true → before b c ≡ true → before a c ≡ true
unfolding before
before-trans a b c e f = ap is_lt (labels.trans (is-lt (labels.cmp a b) e) (is-lt (labels.cmp b c) f))

before_self : (a : Label) → before a a ≡ false
unfolding before
before_self a = ap is_lt (self labels a)

pub before-turn : (a b : Label) → before a b ≡ true → before b a ≡ false
before-turn a b e = by-test (before b a) (λ f. clash (sym (before-trans a b a e f) ∙ before_self a)) (λ f. f)

pub among-elem : (K : KeyList) (p : Path) (l : Label) (n : Bytes) (k r : Forest) → same_label l (label K p n k) ≡ true → is_among K p l (elem n k r) ≡ true
among-elem K p l n k r e = find-elem K p l n k r ∙ rw e

or-four : (a b t d : Bool) → ((a || b) || (t || d)) ≡ ((a || t) || (b || d))
or-four true b t d = refl
or-four false true true d = refl
or-four false true false d = refl
or-four false false t d = refl

module _ (K : KeyList) (p : Path) where
  pub ends_join : (l : Label) (f : Forest) (n : Bytes) (k : Forest) → labels.cmp (label K p n k) l ≡ lt → Ends K p l (join f (elem n k end))
  unfolding join
  ends_join l end n k e = e
  ends_join l (text b r) n k e = ends_join l r n k e
  ends_join l (stamp t j r) n k e = ends_join l r n k e
  ends_join l (elem m j end) n k e = e
  ends_join l (elem m j (text b r)) n k e = ends_join l r n k e
  ends_join l (elem m j (stamp t i r)) n k e = ends_join l r n k e
  ends_join l (elem m j (elem c i r)) n k e = ends_join l (elem c i r) n k e

  -- ---- the labels among siblings
  pub among-join : (l : Label) (f g : Forest) → is_among K p l (join f g) ≡ (is_among K p l f || is_among K p l g)
  unfolding join find is_some
  among-join l end g = refl
  among-join l (text b r) g = among-join l r g
  among-join l (stamp t k r) g = among-join l r g
  among-join l (elem n k r) g = find-elem K p l n k (join r g) ∙ ap (λ x. same_label l (label K p n k) || x) (among-join l r g) ∙ or-three (same_label l (label K p n k)) (is_among K p l r) (is_among K p l g) ∙ ap (λ x. x || is_among K p l g) (sym (find-elem K p l n k r))
    where
      or-three : (a b c : Bool) → (a || (b || c)) ≡ ((a || b) || c)
      or-three true b c = refl
      or-three false b c = refl

  among-elements : (l : Label) (f : Forest) → is_among K p l (elements f) ≡ is_among K p l f
  unfolding elements find is_some
  among-elements l end = refl
  among-elements l (text b r) = among-elements l r
  among-elements l (stamp t k r) = among-elements l r
  among-elements l (elem n k r) = find-elem K p l n k (elements r) ∙ ap (λ x. same_label l (label K p n k) || x) (among-elements l r) ∙ sym (find-elem K p l n k r)

  -- ---- an element put in
  insert-first : (n : Bytes) (k : Forest) (m : Bytes) (j r : Forest) → before (label K p n k) (label K p m j) ≡ true → insert_by K p n k (elem m j r) ≡ elem n k (elem m j r)
  unfolding insert_by
  insert-first n k m j r e = rw (e, insert_by)

  insert-later : (n : Bytes) (k : Forest) (m : Bytes) (j r : Forest) → before (label K p n k) (label K p m j) ≡ false → insert_by K p n k (elem m j r) ≡ elem m j (insert_by K p n k r)
  unfolding insert_by
  insert-later n k m j r e = rw (e, insert_by)

  -- two put in one after the other, in either order
  insert-less : (n : Bytes) (k : Forest) (m : Bytes) (j s : Forest) → before (label K p n k) (label K p m j) ≡ true
      → insert_by K p n k (insert_by K p m j s) ≡ insert_by K p m j (insert_by K p n k s)
  unfolding insert_by
  insert-less n k m j end e =
      insert-first n k m j end e ∙ sym (insert-later m j n k end (before-turn (label K p n k) (label K p m j) e))
  insert-less n k m j (text b r) e = ap (text b) (insert-less n k m j r e)
  insert-less n k m j (stamp t i r) e = ap (stamp t i) (insert-less n k m j r e)
  insert-less n k m j (elem c i r) e =
      let back = before-turn (label K p n k) (label K p m j) e in
      by-test (before (label K p m j) (label K p c i))
      (λ x.
      let y = before-trans (label K p n k) (label K p m j) (label K p c i) e x in
      ap (insert_by K p n k) (insert-first m j c i r x) ∙ insert-first n k m j (elem c i r) e
      ∙ ap (elem n k) (sym (insert-first m j c i r x)) ∙ sym (insert-later m j n k (elem c i r) back) ∙ ap (insert_by K p m j) (sym (insert-first n k c i r y)))
      (λ x. ap (insert_by K p n k) (insert-later m j c i r x) ∙ by-test (before (label K p n k) (label K p c i))
      (λ y. insert-first n k c i (insert_by K p m j r) y ∙ ap (elem n k) (sym (insert-later m j c i r x)) ∙ sym (insert-later m j n k (elem c i r) back)
      ∙ ap (insert_by K p m j) (sym (insert-first n k c i r y)))
      (λ y. insert-later n k c i (insert_by K p m j r) y ∙ ap (elem c i) (insert-less n k m j r e) ∙ sym (insert-later m j c i (insert_by K p n k r) x)
      ∙ ap (insert_by K p m j) (sym (insert-later n k c i r y))))

  pub insert-swap : (n : Bytes) (k : Forest) (m : Bytes) (j s : Forest) → same_label (label K p n k) (label K p m j) ≡ false
      → insert_by K p n k (insert_by K p m j s) ≡ insert_by K p m j (insert_by K p n k s)
  unfolding same_label before
  insert-swap n k m j s e = go (labels.cmp (label K p n k) (label K p m j)) refl e
    where
      go : (o : Ordering) → labels.cmp (label K p n k) (label K p m j) ≡ o → is_eq o ≡ false → insert_by K p n k (insert_by K p m j s) ≡ insert_by K p m j (insert_by K p n k s)
      go lt q h = insert-less n k m j s (ap is_lt q)
      go eq q h = clash h
      go gt q h = sym (insert-less m j n k s (ap is_lt (flop labels q)))

  among-insert : (l : Label) (n : Bytes) (k s : Forest) → is_among K p l (insert_by K p n k s) ≡ (same_label l (label K p n k) || is_among K p l s)
  unfolding insert_by find
  among-insert l n k end = find-elem K p l n k end
  among-insert l n k (text b r) = among-insert l n k r
  among-insert l n k (stamp t j r) = among-insert l n k r
  among-insert l n k (elem m j r) =
      by-test (before (label K p n k) (label K p m j))
      (λ x. ap (is_among K p l) (insert-first n k m j r x) ∙ find-elem K p l n k (elem m j r))
      (λ x. ap (is_among K p l) (insert-later n k m j r x) ∙ find-elem K p l m j (insert_by K p n k r) ∙ ap (λ y. same_label l (label K p m j) || y) (among-insert l n k r)
      ∙ or_swap (same_label l (label K p m j)) (same_label l (label K p n k)) (is_among K p l r) ∙ ap (λ y. same_label l (label K p n k) || y) (sym (find-elem K p l m j r)))

  pub among-order : (l : Label) (f : Forest) → is_among K p l (in_order K p f) ≡ is_among K p l f
  unfolding in_order find
  among-order l end = refl
  among-order l (text b r) = among-order l r
  among-order l (stamp t k r) = among-order l r
  among-order l (elem n k r) = among-insert l n k (in_order K p r) ∙ ap (λ x. same_label l (label K p n k) || x) (among-order l r) ∙ sym (find-elem K p l n k r)

  -- ---- one more, after the others
  module _ (n : Bytes) (k : Forest) where
    pub order-last : (f : Forest) → is_among K p (label K p n k) f ≡ false → in_order K p (join f (elem n k end)) ≡ insert_by K p n k (in_order K p f)
    unfolding in_order join
    order-last end e = refl
    order-last (text b r) e = order-last r (unfold find in e)
    order-last (stamp t j r) e = order-last r (unfold find in e)
    order-last (elem m j r) e =
        let d = sym (find-elem K p (label K p n k) m j r) ∙ e in
        ap (insert_by K p m j) (order-last r (or_right (same_label (label K p n k) (label K p m j)) (is_among K p (label K p n k) r) d))
        ∙ sym (insert-swap n k m j (in_order K p r) (or_left (same_label (label K p n k) (label K p m j)) (is_among K p (label K p n k) r) d))

    among_one : (l : Label) → is_among K p l (elem n k end) ≡ same_label l (label K p n k)
    unfolding find is_some
    among_one l = bool_by (λ x. is_among K p l (elem n k end) ≡ x) (same_label l (label K p n k)) (λ e. among-elem K p l n k end e) (λ e. find-elem K p l n k end ∙ rw e)

    pub twins-last : (f : Forest) → is_among K p (label K p n k) f ≡ false → twins K p f ≡ false → twins K p (join f (elem n k end)) ≡ false
    unfolding twins join
    twins-last end e t = unfold find is_some in refl
    twins-last (text b r) e t = twins-last r (unfold find in e) t
    twins-last (stamp c j r) e t = twins-last r (unfold find in e) t
    twins-last (elem m j r) e t =
        let l = label K p m j in
        let d = sym (find-elem K p (label K p n k) m j r) ∙ e in
        or-both (is_among K p l (join r (elem n k end))) (twins K p (join r (elem n k end)))
        (among-join l r (elem n k end) ∙ or-both (is_among K p l r) (is_among K p l (elem n k end)) (or_left (is_among K p l r) (twins K p r) t)
        (among_one l ∙ same-turned l (label K p n k) ∙ or_left (same_label (label K p n k) l) (is_among K p (label K p n k) r) d))
        (twins-last r (or_right (same_label (label K p n k) l) (is_among K p (label K p n k) r) d) (or_right (is_among K p l r) (twins K p r) t))

    pub twins-hit : (f g : Forest) → is_among K p (label K p n k) f ≡ true → twins K p (join f (elem n k g)) ≡ true
    unfolding twins join
    twins-hit end g e = unfold find is_some in clash (sym e)
    twins-hit (text b r) g e = twins-hit r g (unfold find in e)
    twins-hit (stamp c j r) g e = twins-hit r g (unfold find in e)
    twins-hit (elem m j r) g e =
        let l = label K p m j in
        let d = sym (find-elem K p (label K p n k) m j r) ∙ e in
        by-test (same_label (label K p n k) l)
        (λ x. or-first (is_among K p l (join r (elem n k g))) (twins K p (join r (elem n k g)))
        (among-join l r (elem n k g) ∙ or-second (is_among K p l r) (is_among K p l (elem n k g)) (among-elem K p l n k g (same-turned l (label K p n k) ∙ x))))
        (λ x. or-second (is_among K p l (join r (elem n k g))) (twins K p (join r (elem n k g))) (twins-hit r g (rw x at d)))

  -- ---- 9: two siblings are alike, or one holds such
  doubled-elem : (n : Bytes) (k r : Forest) → above K p ≡ true → doubled K p (elem n k r) ≡ ((is_among K p (label K p n k) r || doubled K (p ▸ n) k) || doubled K p r)
  unfolding doubled
  doubled-elem n k r a = rw a

  pub doubled-parts : (f : Forest) → above K p ≡ true → doubled K p f ≡ (twins K p (elements f) || doubled_kids K p f)
  unfolding twins doubled_kids elements doubled
  doubled-parts end a = refl
  doubled-parts (text b r) a = doubled-parts r a
  doubled-parts (stamp t k r) a = doubled-parts r a
  doubled-parts (elem n k r) a =
      doubled-elem n k r a ∙ ap₂ (λ x y. (x || doubled K (p ▸ n) k) || y) (sym (among-elements (label K p n k) r)) (doubled-parts r a)
      ∙ or-four (is_among K p (label K p n k) (elements r)) (doubled K (p ▸ n) k) (twins K p (elements r)) (doubled_kids K p r)

  pub kids-end : doubled_kids K p end ≡ false
  unfolding doubled_kids
  kids-end = refl

  pub kids-elem : (n : Bytes) (k r : Forest) → doubled_kids K p (elem n k r) ≡ (doubled K (p ▸ n) k || doubled_kids K p r)
  unfolding doubled_kids
  kids-elem n k r = refl

  kids-insert : (n : Bytes) (k s : Forest) → doubled_kids K p (insert_by K p n k s) ≡ (doubled K (p ▸ n) k || doubled_kids K p s)
  unfolding insert_by doubled_kids
  kids-insert n k end = refl
  kids-insert n k (text b r) = kids-insert n k r
  kids-insert n k (stamp t j r) = kids-insert n k r
  kids-insert n k (elem m j r) =
      by-test (before (label K p n k) (label K p m j))
      (λ x. ap (doubled_kids K p) (insert-first n k m j r x))
      (λ x. ap (doubled_kids K p) (insert-later n k m j r x) ∙ ap (λ y. doubled K (p ▸ m) j || y) (kids-insert n k r)
      ∙ or_swap (doubled K (p ▸ m) j) (doubled K (p ▸ n) k) (doubled_kids K p r))

  pub kids-order : (f : Forest) → doubled_kids K p (in_order K p (elements f)) ≡ doubled_kids K p f
  unfolding in_order elements doubled_kids
  kids-order end = refl
  kids-order (text b r) = kids-order r
  kids-order (stamp t k r) = kids-order r
  kids-order (elem n k r) = kids-insert n k (in_order K p (elements r)) ∙ ap (λ x. doubled K (p ▸ n) k || x) (kids-order r)

  -- ---- an element's place among siblings that ascend: those before it have lower labels, the next a higher one
  abbrev Under : Label → Forest → Type 0
  Under l end = Unit {0}
  Under l (text b r) = ⊥
  Under l (stamp t k r) = ⊥
  Under l (elem n k r) = (labels.cmp (label K p n k) l ≡ lt) × Under l r

  ends-under : (l : Label) (low high : Forest) → Rises K p (join low high) → Ends K p l low → Under l low
  unfolding join
  ends-under l end high g e = tt
  ends-under l (text b r) high g e = absurd g
  ends-under l (stamp t k r) high g e = absurd g
  ends-under l (elem n k end) high g e = (e, tt)
  ends-under l (elem n k (text b r)) high g e = absurd g.1
  ends-under l (elem n k (stamp t j r)) high g e = absurd g.1
  ends-under l (elem n k (elem m j r)) high g e = let u = ends-under l (elem m j r) high g.1 e in (labels.trans g.0 u.0, u)

  first-less : (l a : Label) (s : Forest) → labels.cmp l a ≡ lt → First K p a s → First K p l s
  first-less l a end e h = tt
  first-less l a (text b r) e h = absurd h
  first-less l a (stamp t k r) e h = absurd h
  first-less l a (elem n k r) e h = labels.trans e h

  first_absent : (l : Label) (s : Forest) → First K p l s → Rises K p s → is_among K p l s ≡ false
  first_absent l end h g = unfold find is_some in refl
  first_absent l (text b r) h g = absurd h
  first_absent l (stamp t k r) h g = absurd h
  first_absent l (elem n k r) h g =
      find-elem K p l n k r ∙ or-both (same_label l (label K p n k)) (is_among K p l r) (unfold same_label in ap is_eq h)
      (first_absent l r (first-less l (label K p n k) r h g.0) g.1)

  rises-rest : (low high : Forest) → Rises K p (join low high) → Rises K p high
  unfolding join
  rises-rest end high g = g
  rises-rest (text b r) high g = absurd g
  rises-rest (stamp t k r) high g = absurd g
  rises-rest (elem n k r) high g = rises-rest r high g.1

  under-absent : (l : Label) (low high : Forest) → Under l low → is_among K p l high ≡ false → is_among K p l (join low high) ≡ false
  unfolding join
  under-absent l end high u a = a
  under-absent l (text b r) high u a = absurd u
  under-absent l (stamp t k r) high u a = absurd u
  under-absent l (elem n k r) high u a =
      find-elem K p l n k (join r high) ∙ or-both (same_label l (label K p n k)) (is_among K p l (join r high)) (unfold same_label in ap is_eq (flip labels u.0))
      (under-absent l r high u.1 a)

  pub place-absent : (l : Label) (low high : Forest) → Rises K p (join low high) → Ends K p l low → First K p l high → is_among K p l (join low high) ≡ false
  place-absent l low high g e h = under-absent l low high (ends-under l low high g e) (first_absent l high h (rises-rest low high g))

  module _ (n : Bytes) (k : Forest) where
    insert-under : (low high : Forest) → Under (label K p n k) low → First K p (label K p n k) high → insert_by K p n k (join low high) ≡ join low (elem n k high)
    unfolding join
    insert-under end end u h = unfold insert_by in refl
    insert-under end (text b r) u h = absurd h
    insert-under end (stamp t j r) u h = absurd h
    insert-under end (elem m j r) u h = insert-first n k m j r (unfold before in ap is_lt h)
    insert-under (text b r) high u h = absurd u
    insert-under (stamp t j r) high u h = absurd u
    insert-under (elem m j r) high u h =
        insert-later n k m j (join r high) (before-turn (label K p m j) (label K p n k) (unfold before in ap is_lt u.0)) ∙ ap (elem m j) (insert-under r high u.1 h)

    pub place-insert : (low high : Forest) → Rises K p (join low high) → Ends K p (label K p n k) low → First K p (label K p n k) high → insert_by K p n k (join low high) ≡ join low (elem n k high)
    place-insert low high g e h = insert-under low high (ends-under (label K p n k) low high g e) h

    pub place-rises : (low high : Forest) → Rises K p (join low high) → Ends K p (label K p n k) low → First K p (label K p n k) high → Rises K p (join low (elem n k high))
    unfolding join
    place-rises end high g e h = (h, g)
    place-rises (text b r) high g e h = absurd g
    place-rises (stamp t j r) high g e h = absurd g
    place-rises (elem m j end) high g e h = (e, (h, g.1))
    place-rises (elem m j (text b r)) high g e h = absurd g.1
    place-rises (elem m j (stamp t i r)) high g e h = absurd g.1
    place-rises (elem m j (elem c i r)) high g e h = (g.0, place-rises (elem c i r) high g.1 e h)

  -- ---- what holds of each element
  module _ (P : Bytes → Forest → Type 0) where
    each-insert : (n : Bytes) (k s : Forest) → P n k → Each P s → Each P (insert_by K p n k s)
    unfolding insert_by
    each-insert n k end a h = (a, h)
    each-insert n k (text b r) a h = each-insert n k r a h
    each-insert n k (stamp t j r) a h = each-insert n k r a h
    each-insert n k (elem m j r) a h =
        let i = each-insert n k r a h.1 in
        bool_by (λ x. Each P (elim x as (λ _. Forest) [ true ↦ elem n k (elem m j r) | false ↦ elem m j (insert_by K p n k r) ])) (before (label K p n k) (label K p m j))
        (λ _. (a, h)) (λ _. (h.0, i))

    pub each-order : (f : Forest) → Each P f → Each P (in_order K p (elements f))
    unfolding in_order elements
    each-order end h = tt
    each-order (text b r) h = each-order r h
    each-order (stamp t k r) h = each-order r h
    each-order (elem n k r) h = each-insert n k (in_order K p (elements r)) h.0 (each-order r h.1)

  -- ---- each element with something else in it that leaves its label as it is
  module _ (to : Bytes → Forest → Forest) where
    abbrev pub LabelKept : Bytes → Forest → Type 0
    LabelKept n k = label K p n (to n k) ≡ label K p n k

    pub insert-with : (n : Bytes) (k s : Forest) → LabelKept n k → Each LabelKept s → insert_by K p n (to n k) (each_with to s) ≡ each_with to (insert_by K p n k s)
    unfolding insert_by each_with
    insert-with n k end a h = refl
    insert-with n k (text b r) a h = ap (text b) (insert-with n k r a h)
    insert-with n k (stamp t j r) a h = ap (stamp t j) (insert-with n k r a h)
    insert-with n k (elem m j r) a h =
        let e : before (label K p n (to n k)) (label K p m (to m j)) ≡ before (label K p n k) (label K p m j) = ap₂ before a h.0 in
        by-test (before (label K p n k) (label K p m j))
        (λ x. insert-first n (to n k) m (to m j) (each_with to r) (e ∙ x) ∙ ap (each_with to) (sym (insert-first n k m j r x)))
        (λ x. insert-later n (to n k) m (to m j) (each_with to r) (e ∙ x) ∙ ap (elem m (to m j)) (insert-with n k r a h.1) ∙ ap (each_with to) (sym (insert-later n k m j r x)))
