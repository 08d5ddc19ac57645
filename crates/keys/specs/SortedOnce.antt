-- Sorted siblings have each label once, as before; and to sort them again changes nothing.
use Rattle.std.specs.Prelude.{◌≡◌, Bool, true, false, ◌&&◌, ◌||◌}
use Rattle.std.proofs.Math.Path.{refl}
use Rattle.std.proofs.Common.{sym, ◌∙◌, ap, ap₂}
use mathlib.Core.Ordering.{Ordering, lt, eq, gt}
use Rattle.xml.specs.Bytes.{Bytes}
use Rattle.xml.specs.Forest.{Forest, end, elem, text, stamp}
use Rattle.model.specs.Keyed.{turned, flop}
use Rattle.model.specs.Orders.{labels, is_eq, is_lt}
use Rattle.keys.specs.KeyList.{Path, KeyList, above}
use Rattle.keys.specs.Version.{◌▸◌, Label, label, same_label, before, find, is_some, unkeyed, doubled, insert_by, ordered}
use Rattle.xml.specs.Truth.{clash, or_left, or_right, or_swap, and-false}
use Rattle.keys.specs.Sorting.{First, Into, here, after, Sorting, kept, empty, put, ordered-elem}
use Rattle.keys.specs.Beneath.{front_ordered}
use Rattle.keys.specs.SortedKept.{into-kept, find-elem}
use Rattle.keys.specs.SortedKeys.{keyed-kids, keyed-rest, sorted-label}

-- ---- the labels among siblings
into-find : {K : KeyList} {p : Path} {n : Bytes} {k f g : Forest} (l : Label) → Into K p n k f g → is_some (find K p l g) ≡ is_some (find K p l (elem n k f))
into-find {K} l i =
    into-kept K (λ q h. is_some (find K q l h))
    (λ p n k m j r. simp find-elem (or_swap (same_label l (label K p n k)) (same_label l (label K p m j)) (is_some (find K p l r))))
    (λ p n k r s e. simp find-elem (rw e)) i

sorted-find : {K : KeyList} {p : Path} {f g : Forest} (l : Label) → Sorting K p f g → unkeyed K p f ≡ false → is_some (find K p l g) ≡ is_some (find K p l f)
sorted-find l (kept a) e = refl
sorted-find l (empty a) e = refl
sorted-find {K} {p} l (put {n = n} {k = k} {j = j} {r = r} {s = s} a x y i) e =
    into-find l i ∙ find-elem K p l n j s
    ∙ ap₂ (λ c b. same_label l c || b) (sorted-label K p n k r e x) (sorted-find l y (keyed-rest K p n k r e)) ∙ sym (find-elem K p l n k r)

-- ---- each label once
abbrev doubled_in : KeyList → Path → Bytes → Forest → Forest → Bool
doubled_in K p n k r = above K p && is_some (find K p (label K p n k) r)

module _ (K : KeyList) (p : Path) (n : Bytes) (k r : Forest) (e : doubled K p (elem n k r) ≡ false) where
  pub single-here : doubled_in K p n k r ≡ false
  unfolding doubled
  single-here = or_left (doubled_in K p n k r) (doubled K (p ▸ n) k) (or_left (doubled_in K p n k r || doubled K (p ▸ n) k) (doubled K p r) e)

  pub single-kids : doubled K (p ▸ n) k ≡ false
  unfolding doubled
  single-kids = or_right (doubled_in K p n k r) (doubled K (p ▸ n) k) (or_left (doubled_in K p n k r || doubled K (p ▸ n) k) (doubled K p r) e)

  pub single-rest : doubled K p r ≡ false
  unfolding doubled
  single-rest = or_right (doubled_in K p n k r || doubled K (p ▸ n) k) (doubled K p r) e

single-elem : (K : KeyList) (p : Path) (n : Bytes) (k r : Forest) → doubled_in K p n k r ≡ false → doubled K (p ▸ n) k ≡ false → doubled K p r ≡ false
    → doubled K p (elem n k r) ≡ false
unfolding doubled
single-elem K p n k r a b c = rw (a, b, c)

and_none : (a : Bool) {b : Bool} → b ≡ false → (a && b) ≡ false
and_none true e = e
and_none false e = refl

pub same-turned : (a b : Label) → same_label a b ≡ same_label b a
unfolding same_label
same-turned a b = sym (ap is_eq (labels.turn a b) ∙ go (labels.cmp a b))
  where
    go : (o : Ordering) → is_eq (turned o) ≡ is_eq o
    go lt = refl
    go eq = refl
    go gt = refl

into-single : {K : KeyList} {p : Path} {n : Bytes} {k f g : Forest} → Into K p n k f g → is_some (find K p (label K p n k) f) ≡ false
    → doubled K (p ▸ n) k ≡ false → doubled K p f ≡ false → doubled K p g ≡ false
into-single {K} {p} {n} {k} {f} (here h) u v w = single-elem K p n k f (and_none (above K p) u) v w
into-single {K} {p} {n} {k} (after {m = m} {j = j} {r = r} {s = s} h i) u v w =
    let d = sym (find-elem K p (label K p n k) m j r) ∙ u in
    let apart = same-turned (label K p m j) (label K p n k) ∙ or_left (same_label (label K p n k) (label K p m j)) (is_some (find K p (label K p n k) r)) d in
    let gone : is_some (find K p (label K p m j) s) ≡ is_some (find K p (label K p m j) r) = into-find (label K p m j) i ∙ find-elem K p (label K p m j) n k r ∙ rw apart in
    single-elem K p m j s (rw gone (single-here K p m j r w)) (single-kids K p m j r w)
    (into-single i (or_right (same_label (label K p n k) (label K p m j)) (is_some (find K p (label K p n k) r)) d) v (single-rest K p m j r w))

-- the label of an element that is put in is not there yet
sorted-absent : {K : KeyList} {p : Path} (n : Bytes) {k j r s : Forest} → above K p ≡ true → unkeyed K p (elem n k r) ≡ false → doubled K p (elem n k r) ≡ false
    → Sorting K (p ▸ n) k j → Sorting K p r s → is_some (find K p (label K p n j) s) ≡ false
sorted-absent {K} {p} n {k = k} {j = j} {r = r} {s = s} a u d x y =
    ap (λ l. is_some (find K p l s)) (sorted-label K p n k r u x)
    ∙ sorted-find (label K p n k) y (keyed-rest K p n k r u) ∙ and-false a (single-here K p n k r d)

pub sorted-single : {K : KeyList} {p : Path} {f g : Forest} → Sorting K p f g → unkeyed K p f ≡ false → doubled K p f ≡ false → doubled K p g ≡ false
sorted-single (kept a) u d = d
sorted-single (empty a) u d = d
sorted-single {K} {p} (put {n = n} {k = k} {r = r} a x y i) u d =
    into-single i (sorted-absent n a u d x y) (sorted-single x (keyed-kids K p n k r u) (single-kids K p n k r d))
    (sorted-single y (keyed-rest K p n k r u) (single-rest K p n k r d))

-- ---- siblings that ascend, each with sorted children
abbrev pub Rising : KeyList → Path → Forest → Type 0
Rising K p end = Unit {0}
Rising K p (elem n k r) = First K p (label K p n k) r × (ordered K (p ▸ n) k ≡ k) × Rising K p r
Rising K p (text b r) = ⊥
Rising K p (stamp t k r) = ⊥

into-first : {K : KeyList} {p : Path} {n : Bytes} {k f g : Forest} (l : Label) → Into K p n k f g → First K p l f → labels.cmp l (label K p n k) ≡ lt → First K p l g
into-first l (here h) a b = b
into-first l (after h i) a b = a

-- neither less nor the same
is_gt : (o : Ordering) → is_lt o ≡ false → is_eq o ≡ false → o ≡ gt
is_gt lt a b = clash a
is_gt eq a b = clash b
is_gt gt a b = refl

into-rising : {K : KeyList} {p : Path} {n : Bytes} {k f g : Forest} → Into K p n k f g → is_some (find K p (label K p n k) f) ≡ false
    → ordered K (p ▸ n) k ≡ k → Rising K p f → Rising K p g
unfolding same_label
into-rising (here h) u e g = (h, e, g)
into-rising {K} {p} {n} {k} (after {m = m} {j = j} {r = r} h i) u e g =
    let d = sym (find-elem K p (label K p n k) m j r) ∙ u in
    let more = is_gt (labels.cmp (label K p n k) (label K p m j)) h (or_left (same_label (label K p n k) (label K p m j)) (is_some (find K p (label K p n k) r)) d) in (
      into-first (label K p m j) i g.0 (flop labels more),
      g.1,
      into-rising i (or_right (same_label (label K p n k) (label K p m j)) (is_some (find K p (label K p n k) r)) d) e g.2,
    )

insert-first : (K : KeyList) (p : Path) (n : Bytes) (k f : Forest) → First K p (label K p n k) f → insert_by K p n k f ≡ elem n k f
unfolding insert_by before
insert-first K p n k end h = refl
insert-first K p n k (text b r) h = absurd h
insert-first K p n k (stamp t j r) h = absurd h
insert-first K p n k (elem m j r) h = rw (h, insert_by)

rising-ordered : (K : KeyList) (p : Path) (f : Forest) → above K p ≡ true → Rising K p f → ordered K p f ≡ f
rising-ordered K p end a g = unfold ordered in refl
rising-ordered K p (text b r) a g = absurd g
rising-ordered K p (stamp t k r) a g = absurd g
rising-ordered K p (elem n k r) a g =
    ordered-elem K p n k r a ∙ ap₂ (insert_by K p n) g.1 (rising-ordered K p r a g.2) ∙ insert-first K p n k r g.0

-- what is sorted ascends, and sorting it again changes nothing
pub sorted-rising : {K : KeyList} {p : Path} {f g : Forest} → Sorting K p f g → unkeyed K p f ≡ false → doubled K p f ≡ false
    → (above K p ≡ true → Rising K p g) × (ordered K p g ≡ g)
sorted-rising {K} {p} {f} (kept a) u d = (λ b. clash (sym b ∙ a), front_ordered K p f a)
sorted-rising {K} {p} (empty a) u d = (λ _. tt, rising-ordered K p end a tt)
sorted-rising {K} {p} (put {n = n} {k = k} {r = r} {t = t} a x y i) u d =
    let kids = (sorted-rising x (keyed-kids K p n k r u) (single-kids K p n k r d)).1 in
    let rest = (sorted-rising y (keyed-rest K p n k r u) (single-rest K p n k r d)).0 a in
    let all = into-rising i (sorted-absent n a u d x y) kids rest in
    (λ _. all, rising-ordered K p t a all)

pub sorted-again : {K : KeyList} {p : Path} {f g : Forest} → Sorting K p f g → unkeyed K p f ≡ false → doubled K p f ≡ false → ordered K p g ≡ g
sorted-again t u d = (sorted-rising t u d).1
