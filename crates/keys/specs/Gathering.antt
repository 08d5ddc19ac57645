-- Siblings put in order on the tape: the search for a place among the entries, and the entries as the loop goes along.
use Rattle.std.specs.Prelude.{Option, Some, None, ℕ, ◌+◌, ◌%◌, ◌<◌, ◌≤◌, ◌≡◌, refl, true, false, List, get_or}
use native.Mathlib.Omega.{arith}
use Rattle.std.proofs.Math.Path.{sym, ap}
use Rattle.std.proofs.Common.{◌∙◌}
use mathlib.Core.Ordering.{gt}
use Rattle.xml.specs.Truth.{or-second}
use Rattle.xml.specs.Bytes.{Bytes}
use Rattle.xml.specs.Forest.{Forest, end, elem, join}
use Rattle.xml.specs.Complete.{join-end, join-assoc}
use Rattle.xml.specs.Tape.{head_at, next_at, Tape, at-end, at-text, at-elem, at-stamp}
use Rattle.xml.specs.TapeLaws.{tape-le, tape-none}
use Rattle.model.specs.Keyed.{flop}
use Rattle.model.specs.Orders.{labels}
use Rattle.keys.specs.KeyList.{Path, KeyList}
use Rattle.keys.specs.Version.{Label, label, insert_by}
use Rattle.keys.specs.Sorting.{First}
use Rattle.keys.specs.SortedOnce.{same-turned}
use Rattle.keys.specs.Ranks.{rank, rank_lt, rank-gt}
use Rattle.keys.specs.LabelLaws.{same-label}
use Rattle.keys.specs.Walks.{Parted}
use Rattle.keys.specs.Siblings.{is_among, elements, tags, in_order, twins, Rises, Ends}
use Rattle.keys.specs.SiblingLaws.{among-elem, ends_join, among-join, among-order, order-last, twins-last, twins-hit, place-absent, place-insert, place-rises}
use Rattle.keys.specs.ResultLaws.{none-not, some-is}
use Rattle.keys.specs.Entries.{Entry, Lists, no_more, one_more, Inserted, Ranked, alike, between, Sorted, Picked, lists-le, lists-none, lists-join, lists-moved, lists_at}

-- ---- the search: the entry before a has a lower label, that at e a higher one
pub record Ranking (K : KeyList) (q : Path) (src cells : List ℕ) (lo hi : ℕ) (order : List ℕ) (k : ℕ) (l : Label) (s : Forest) (a e : ℕ) : Type 0 where
  pub low : Forest
  pub mid : Forest
  pub high : Forest
  pub is : s ≡ join low (join mid high)
  pub left : Lists src cells lo hi order 0 a low
  pub middle : Lists src cells lo hi order a e mid
  pub right : Lists src cells lo hi order e k high
  pub ends : Ends K q l low
  pub first : First K q l high

join-picked : (low init : Forest) (n : Bytes) (k rest high : Forest) → join low (join (join init (elem n k rest)) high) ≡ join low (join init (elem n k (join rest high)))
unfolding join
join-picked low init n k rest high = ap (join low) (join-assoc init (elem n k rest) high)

join-passed : (low init : Forest) (n : Bytes) (k g : Forest) → join low (join init (elem n k g)) ≡ join (join (join low init) (elem n k end)) g
unfolding join
join-passed low init n k g = sym (join-assoc (join low init) (elem n k end) g ∙ join-assoc low init (elem n k g))

module _ {K : KeyList} {q : Path} {src cells : List ℕ} {lo hi : ℕ} {order : List ℕ} {k : ℕ} {l : Label} {s : Forest} where
  pub ranking-start : Lists src cells lo hi order 0 k s → Ranking K q src cells lo hi order k l s 0 k
  unfolding join
  ranking-start t = record { low = end; mid = s; high = end; is = sym (join-end s); left = no_more refl; middle = t; right = no_more refl; ends = tt; first = tt }

  pub ranking-done : {a e : ℕ} → Ranking K q src cells lo hi order k l s a e → e ≤ a → Ranked K q src cells lo hi order k l s (Some a)
  unfolding join
  ranking-done {a} {e} x d =
      let z : e ≡ a = omega (arith, lists-le x.middle) in
      let w : x.mid ≡ end = lists-none (rw z at x.middle) in
      between refl (x.is ∙ ap (λ g. join x.low (join g x.high)) w) x.left (rw z at x.right) x.ends x.first

  -- by one entry
  module _ {a e : ℕ} (x : Ranking K q src cells lo hi order k l s a e) (m : ℕ) (low : a ≤ m) (high : m < e) where
    pub ranking-at : Picked src cells lo hi order a m e x.mid
    ranking-at = lists_at m x.middle low high

    picked-is : s ≡ join x.low (join ranking-at.init (elem ranking-at.name ranking-at.kids (join ranking-at.rest x.high)))
    picked-is =
        let z = ranking-at in
        x.is ∙ ap (λ g. join x.low (join g x.high)) z.is ∙ join-picked x.low z.init z.name z.kids z.rest x.high

    module _ (o : ℕ) (c : o ≡ rank (labels.cmp (label K q ranking-at.name ranking-at.kids) l)) where
      pub ranking-same : o ≡ 1 → Ranked K q src cells lo hi order k l s None
      ranking-same d =
          let z = ranking-at in
          let g = elem z.name z.kids (join z.rest x.high) in
          let w = same-label (label K q z.name z.kids) l (sym c ∙ d) in
          alike refl (ap (is_among K q l) picked-is ∙ among-join K q l x.low (join z.init g) ∙ or-second (is_among K q l x.low) (is_among K q l (join z.init g))
          (among-join K q l z.init g ∙ or-second (is_among K q l z.init) (is_among K q l g)
          (among-elem K q l z.name z.kids (join z.rest x.high) (same-turned l (label K q z.name z.kids) ∙ w))))

      pub ranking-above : o ≡ 0 → Ranking K q src cells lo hi order k l s (m + 1) e
      ranking-above d =
          let z = ranking-at in
          record {
            low = join (join x.low z.init) (elem z.name z.kids end);
            mid = z.rest;
            high = x.high;
            is = picked-is ∙ join-passed x.low z.init z.name z.kids (join z.rest x.high);
            left = lists-join (lists-join x.left z.left) (one_more z.entry (no_more refl));
            middle = z.right;
            right = x.right;
            ends = ends_join K q l (join x.low z.init) z.name z.kids (rank_lt (labels.cmp (label K q z.name z.kids) l) (sym c ∙ d));
            first = x.first;
          }

      pub ranking-below : (o ≡ 0 → ⊥) → (o ≡ 1 → ⊥) → Ranking K q src cells lo hi order k l s a m
      ranking-below d f =
          let z = ranking-at in
          let g : labels.cmp (label K q z.name z.kids) l ≡ gt = rank-gt (labels.cmp (label K q z.name z.kids) l) (λ w. d (c ∙ w)) (λ w. f (c ∙ w)) in
          record {
            low = x.low;
            mid = z.init;
            high = elem z.name z.kids (join z.rest x.high);
            is = picked-is;
            left = x.left;
            middle = z.left;
            right = one_more z.entry (lists-join z.right x.right);
            ends = x.ends;
            first = flop labels g;
          }

-- ---- the elements passed, in order; the nodes p to hi are left
pub record Gathering (K : KeyList) (q : Path) (src cells : List ℕ) (lo hi : ℕ) (order : List ℕ) (f : Forest) (p k : ℕ) : Type 0 where
  pub rest : Forest
  pub tape : Tape src cells p hi rest
  pub passed : Forest
  pub is : elements f ≡ join passed (elements rest)
  pub apart : twins K q passed ≡ false
  pub lists : Lists src cells lo hi order 0 k (in_order K q passed)
  pub rises : Rises K q (in_order K q passed)
  pub few : k + tags rest ≤ 512

module _ {K : KeyList} {q : Path} {src cells : List ℕ} {lo hi : ℕ} {f : Forest} where
  pub gathering-start : (order : List ℕ) → Tape src cells lo hi f → tags f ≤ 512 → Gathering K q src cells lo hi order f lo 0
  unfolding join in_order twins
  gathering-start order t h = record { rest = f; tape = t; passed = end; is = refl; apart = refl; lists = no_more refl; rises = tt; few = omega arith }

  -- by a node that is no element
  pub gathering-skip : {order : List ℕ} {p k : ℕ} → Gathering K q src cells lo hi order f p k → p < hi → (head_at cells p % 4 ≡ 1 → ⊥) → Gathering K q src cells lo hi order f (next_at cells p) k
  gathering-skip {order} {p} {k} x l h = go x.tape x.is x.few
    where
      go : {g : Forest} → Tape src cells p hi g → elements f ≡ join x.passed (elements g) → k + tags g ≤ 512 → Gathering K q src cells lo hi order f (next_at cells p) k
      go (at-end e) i w = absurd (omega arith)
      go (at-text {r = r} n u e t) i w =
          record { rest = r; tape = rw e t; passed = x.passed; is = unfold elements in i; apart = x.apart; lists = x.lists; rises = x.rises; few = unfold tags in w }
      go (at-elem n j t) i w = absurd (h n.kind-is)
      go (at-stamp {r = r} n j t) i w =
          record { rest = r; tape = t; passed = x.passed; is = unfold elements in i; apart = x.apart; lists = x.lists; rises = x.rises; few = unfold tags in omega arith }

  module _ {order : List ℕ} {p k : ℕ} (x : Gathering K q src cells lo hi order f p k) (y : Parted src cells p hi x.rest) where
    kids-few : k + 1 + tags y.rest ≤ 512
    unfolding tags
    kids-few = omega (arith, x.few, ap tags y.is)

    pub gathering-room : k < 512
    gathering-room = omega (arith, kids-few)

    gathered-is : elements f ≡ join x.passed (elem y.name y.kids (elements y.rest))
    unfolding elements
    gathered-is = x.is ∙ ap (λ g. join x.passed (elements g)) y.is

    -- its label is there already
    pub gathering-twice : {r : Option ℕ} → Ranked K q src cells lo hi order k (label K q y.name y.kids) (in_order K q x.passed) r → r ≡ None → twins K q (elements f) ≡ true
    gathering-twice (alike e h) d =
        ap (twins K q) gathered-is ∙ twins-hit K q y.name y.kids x.passed (elements y.rest) (sym (among-order K q (label K q y.name y.kids) x.passed) ∙ h)
    gathering-twice (between i e a b c h) d = none-not (sym d ∙ i)

    -- or it is put in its place
    pub gathering-more : {r : Option ℕ} {j : ℕ} {left : List ℕ} → Ranked K q src cells lo hi order k (label K q y.name y.kids) (in_order K q x.passed) r → r ≡ Some j
        → Inserted order k j p left → lo ≤ p → next_at cells p ≤ hi → Gathering K q src cells lo hi left f (next_at cells p) (k + 1)
    gathering-more (alike e h) d i a b = none-not (sym e ∙ d)
    gathering-more {j = j} {left = left} (between {j = j'} {low = low} {high = high} is e s' t' c h) d i a b =
        let same : j' ≡ j = some-is (sym is ∙ d) in
        let s : Lists src cells lo hi order 0 j low = rw same at s' in
        let t : Lists src cells lo hi order j k high = rw same at t' in
        let n = y.name in
        let m = y.kids in
        let l = label K q n m in
        let rises : Rises K q (join low high) = rw e at x.rises in
        let absent : is_among K q l x.passed ≡ false = sym (among-order K q l x.passed) ∙ ap (is_among K q l) e ∙ place-absent K q l low high rises c h in
        let order_is : in_order K q (join x.passed (elem n m end)) ≡ join low (elem n m high) = order-last K q n m x.passed absent ∙ ap (insert_by K q n m) e ∙ place-insert K q n m low high rises c h in
        let here : Entry src cells lo hi (get_or left j 0) n m = rw i.here (record { low = a; inside = b; node = y.node; inner = y.inner }) in
        record {
          rest = y.rest;
          tape = y.after;
          passed = join x.passed (elem n m end);
          is = gathered-is ∙ unfold join in sym (join-assoc x.passed (elem n m end) (elements y.rest));
          apart = twins-last K q n m x.passed absent x.apart;
          lists = rw order_is (lists-join (lists-moved left 0 0 j s (omega arith) (omega arith) (λ u v w z g. let o : v ≡ u = omega arith in rw o (i.below u z)))
              (one_more here (lists-moved left 1 (j + 1) (k + 1) t (omega arith) (omega arith) (λ u v w z g. rw g (i.further u w z)))));
          rises = rw order_is (place-rises K q n m low high rises c h);
          few = kids-few;
        }

  pub gathering-done : {order : List ℕ} {p k : ℕ} → Gathering K q src cells lo hi order f p k → hi ≤ p → Sorted K q src cells lo hi order f (Some k)
  gathering-done {order} {p} {k} x l =
      let e : hi ≡ p = omega (arith, tape-le x.tape) in
      let w : elements f ≡ x.passed = x.is ∙ ap (λ g. join x.passed (elements g)) (tape-none (rw e at x.tape)) ∙ unfold elements in join-end x.passed in
      record {
        alike = λ d. none-not (sym d);
        apart = λ j d. ap (twins K q) w ∙ x.apart;
        lists = λ j d. rw (sym (some-is d), w) x.lists;
      }
