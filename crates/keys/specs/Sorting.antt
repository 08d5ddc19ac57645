-- Sorting siblings, as a relation between the forest before and after: what sorting keeps is shown by induction on it.
use Rattle.std.specs.Prelude.{◌≡◌, refl, Bool, true, false, not, ◌&&◌, ◌||◌}
use Rattle.std.proofs.Common.{sym, ◌∙◌}
use mathlib.Core.Ordering.{Ordering, lt, eq, gt}
use Rattle.xml.specs.Bytes.{Bytes, bytes, same}
use Rattle.xml.specs.Forest.{Forest, end, elem, text, stamp}
use Rattle.model.specs.Orders.{labels, is_lt}
use Rattle.keys.specs.KeyList.{Path, KeyList, listed, above}
use Rattle.keys.specs.Beneath.{front_ordered}
use Rattle.keys.specs.Version.{◌▸◌, Label, label, before, misplaced, insert_by, ordered}
use Rattle.xml.specs.Truth.{clash, bool_by, or_left, or_right}

-- the label comes before the first of the siblings, which are elements
abbrev pub First : KeyList → Path → Label → Forest → Type 0
First K p l end = Unit {0}
First K p l (elem m j r) = labels.cmp l (label K p m j) ≡ lt
First K p l (text b r) = ⊥
First K p l (stamp t k r) = ⊥

-- an element n that holds k, put in among siblings
pub data Into (K : KeyList) (p : Path) (n : Bytes) (k : Forest) : Forest → Forest → Type 0 where
  here : {f : Forest} → First K p (label K p n k) f → Into K p n k f (elem n k f)
  after : {m : Bytes} {j r s : Forest} → is_lt (labels.cmp (label K p n k) (label K p m j)) ≡ false → Into K p n k r s
      → Into K p n k (elem m j r) (elem m j s)

-- a forest in an element of path p, before and after sorting: only above a frontier is anything sorted
pub data Sorting (K : KeyList) : Path → Forest → Forest → Type 0 where
  kept : {p : Path} {f : Forest} → above K p ≡ false → Sorting K p f f
  empty : {p : Path} → above K p ≡ true → Sorting K p end end
  put : {p : Path} {n : Bytes} {k j r s t : Forest} → above K p ≡ true → Sorting K (p ▸ n) k j → Sorting K p r s → Into K p n j s t
      → Sorting K p (elem n k r) t

-- siblings that are all elements
abbrev pub Elems : Forest → Type 0
Elems end = Unit {0}
Elems (text b r) = ⊥
Elems (elem n k r) = Elems r
Elems (stamp t k r) = ⊥

pub is-lt : (o : Ordering) → is_lt o ≡ true → o ≡ lt
is-lt lt e = refl
is-lt eq e = clash (sym e)
is-lt gt e = clash (sym e)

inserted : (K : KeyList) (p : Path) (n : Bytes) (k f : Forest) → Elems f → Into K p n k f (insert_by K p n k f) × Elems (insert_by K p n k f)
unfolding insert_by before
inserted K p n k end e = (here tt, tt)
inserted K p n k (text b r) e = absurd e
inserted K p n k (stamp t j r) e = absurd e
inserted K p n k (elem m j r) e =
    let i = inserted K p n k r e in
    bool_by (λ x. Into K p n k (elem m j r) (elim x as (λ _. Forest) [ true ↦ elem n k (elem m j r) | false ↦ elem m j (insert_by K p n k r) ])
    × Elems (elim x as (λ _. Forest) [ true ↦ elem n k (elem m j r) | false ↦ elem m j (insert_by K p n k r) ]))
    (is_lt (labels.cmp (label K p n k) (label K p m j)))
    (λ b. (here (is-lt (labels.cmp (label K p n k) (label K p m j)) b), e)) (λ b. (after b i.0, i.1))

-- an element by itself is out of place, or something in it
abbrev pub astray : KeyList → Path → Bytes → Forest → Bool
astray K p n k = same n (bytes "T") || above K p && not (listed K (p ▸ n)) || misplaced K (p ▸ n) k

pub misplaced-kids : (K : KeyList) (p : Path) (n : Bytes) (k r : Forest) → misplaced K p (elem n k r) ≡ false → misplaced K (p ▸ n) k ≡ false
unfolding misplaced
misplaced-kids K p n k r e =
    or_right (same n (bytes "T") || above K p && not (listed K (p ▸ n))) (misplaced K (p ▸ n) k) (or_left (astray K p n k) (misplaced K p r) e)

pub misplaced-rest : (K : KeyList) (p : Path) (n : Bytes) (k r : Forest) → misplaced K p (elem n k r) ≡ false → misplaced K p r ≡ false
unfolding misplaced
misplaced-rest K p n k r e = or_right (astray K p n k) (misplaced K p r) e

-- `ordered` sorts
Sorts : KeyList → Path → Forest → Forest → Type 0
Sorts K p f g = Sorting K p f g × (above K p ≡ true → Elems g)

same-sorts : (K : KeyList) (p : Path) (f : Forest) → above K p ≡ false → Sorts K p f (ordered K p f)
unfolding Sorts
same-sorts K p f a = rw (front_ordered K p f a) (kept a, λ c. clash (sym c ∙ a))

pub ordered-elem : (K : KeyList) (p : Path) (n : Bytes) (k r : Forest) → above K p ≡ true
    → ordered K p (elem n k r) ≡ insert_by K p n (ordered K (p ▸ n) k) (ordered K p r)
unfolding ordered
ordered-elem K p n k r a = rw (a, ordered)

sorts : (K : KeyList) (p : Path) (f : Forest) → misplaced K p f ≡ false → Sorts K p f (ordered K p f)
unfolding Sorts
sorts K p end m = bool_by (λ _. Sorts K p end (ordered K p end)) (above K p) (λ a. unfold ordered in (empty a, λ _. tt)) (same-sorts K p end)
sorts K p (stamp t k r) m = unfold misplaced in clash m
sorts K p (text b r) m = same-sorts K p (text b r) (unfold misplaced in or_left (above K p) (misplaced K p r) m)
sorts K p (elem n k r) m =
    let i = sorts K p r (misplaced-rest K p n k r m) in
    let j = sorts K (p ▸ n) k (misplaced-kids K p n k r m) in
    bool_by (λ _. Sorts K p (elem n k r) (ordered K p (elem n k r))) (above K p)
    (λ a.
    let g = inserted K p n (ordered K (p ▸ n) k) (ordered K p r) (i.1 a) in
    rw (ordered-elem K p n k r a) (put a j.0 i.0 g.0, λ _. g.1))
    (same-sorts K p (elem n k r))

pub sorted : (K : KeyList) (p : Path) (f : Forest) → misplaced K p f ≡ false → Sorting K p f (ordered K p f)
unfolding Sorts
sorted K p f m = (sorts K p f m).0
