-- An array of the numbers of sibling elements: what its functions ask and answer, and the elements that its entries are.
use Prim.Native.Nat.{ℕ, suc, ◌+◌, ◌-◌, ◌<◌, ◌≤◌}
use native.Mathlib.Omega.{arith}
use Rattle.std.specs.Prelude.{Option, Some, None, ◌≡◌, refl, true, false, eqb, ltb, length}
use Rattle.std.proofs.Math.Path.{sym, ap}
use Rattle.std.proofs.Common.{◌∙◌, length-append, length-drop, take-suc, get_or-append-add, get_or-drop}
use mathlib.Core.List.{List, [], ◌∷◌, ◌++◌, append_assoc}
use Rattle.std.proofs.Math.ListN.{get_or, set, take, drop, get_or-append}
use Rattle.std.proofs.Math.Seq.{slice, length-slice, length-take-le, set_at, get_or-take}
use Rattle.std.proofs.lemmas.List.{get_or_at, drop-take}
use Rattle.std.specs.List.{copy_within}
use borrow.Author.Tests.{eqb-true, eqb-false, ltb-true, ltb-false}
use Rattle.xml.specs.Bytes.{Bytes}
use Rattle.xml.specs.Truth.{by-test}
use Rattle.xml.specs.Forest.{Forest, end, elem, join}
use Rattle.xml.specs.Tape.{next_at, Node, Tape}
use Rattle.keys.specs.KeyList.{Path, KeyList}
use Rattle.keys.specs.Version.{Label, label}
use Rattle.keys.specs.Placed.{OfPlace}
use Rattle.keys.specs.Sorting.{First}
use Rattle.keys.specs.Siblings.{is_among, elements, tags, in_order, twins, Ends}

-- node p, one of the nodes lo to hi, is the element n that holds k
pub record Entry (src cells : List ℕ) (lo hi p : ℕ) (n : Bytes) (k : Forest) : Type 0 where
  pub low : lo ≤ p
  pub inside : next_at cells p ≤ hi
  pub node : Node src cells p 1 n
  pub inner : Tape src cells (p + 1) (next_at cells p) k

-- the entries i to j are these siblings
pub data Lists (src cells : List ℕ) (lo hi : ℕ) (order : List ℕ) : ℕ → ℕ → Forest → Type 0 where
  no_more : {i j : ℕ} → i ≡ j → Lists src cells lo hi order i j end
  one_more : {i j : ℕ} {n : Bytes} {k r : Forest} → Entry src cells lo hi (get_or order i 0) n k → Lists src cells lo hi order (i + 1) j r
      → Lists src cells lo hi order i j (elem n k r)

-- so is each of the first k entries
abbrev pub AllEntries : (ℕ → Type 0) → List ℕ → ℕ → Type 0
AllEntries P order k = (i : ℕ) → i < k → P (get_or order i 0)

-- p put at j, and the entries from there to k one further
unfoldable pub insert_at : ℕ → ℕ → ℕ → List ℕ → List ℕ
insert_at k j p order = take j order ++ p ∷ (slice j k order ++ drop (suc k) order)

-- what the first entries are then
pub record Inserted (order : List ℕ) (k j p : ℕ) (left : List ℕ) : Type 0 where
  pub long : length left ≡ 512
  pub below : (i : ℕ) → i < j → get_or left i 0 ≡ get_or order i 0
  pub here : get_or left j 0 ≡ p
  pub further : (i : ℕ) → j ≤ i → i < k → get_or left (i + 1) 0 ≡ get_or order i 0

-- the place r of a label among the first k entries, which are s; or one of them has that label
pub data Ranked (K : KeyList) (q : Path) (src cells : List ℕ) (lo hi : ℕ) (order : List ℕ) (k : ℕ) (l : Label) (s : Forest) (r : Option ℕ) : Type 0 where
  alike : r ≡ None → is_among K q l s ≡ true → Ranked K q src cells lo hi order k l s r
  between : {j : ℕ} {low high : Forest} → r ≡ Some j → s ≡ join low high → Lists src cells lo hi order 0 j low → Lists src cells lo hi order j k high → Ends K q l low → First K q l high
      → Ranked K q src cells lo hi order k l s r

pub record RankOf (key_text : Bytes) (table : List ℕ) (n place : ℕ) (src cells order : List ℕ) (k p : ℕ) (r : Option ℕ) : Type 0 where
  pub inside : (j : ℕ) → r ≡ Some j → j ≤ k
  pub rank : OfPlace key_text table n place
      (λ K q. (m : Bytes) (i : Forest) → Node src cells p 1 m → Tape src cells (p + 1) (next_at cells p) i
      → (lo hi : ℕ) (s : Forest) → Lists src cells lo hi order 0 k s → Ranked K q src cells lo hi order k (label K q m i) s r)

-- the nodes lo to hi have at most 512 elements
abbrev pub Few : List ℕ → List ℕ → ℕ → ℕ → Type 0
Few src cells lo hi = (f : Forest) → Tape src cells lo hi f → tags f ≤ 512

-- so many elements of siblings are the first entries, in order; or two of them have the same label, and there is no number r
pub record Sorted (K : KeyList) (q : Path) (src cells : List ℕ) (lo hi : ℕ) (order : List ℕ) (f : Forest) (r : Option ℕ) : Type 0 where
  pub alike : r ≡ None → twins K q (elements f) ≡ true
  pub apart : (k : ℕ) → r ≡ Some k → twins K q (elements f) ≡ false
  pub lists : (k : ℕ) → r ≡ Some k → Lists src cells lo hi order 0 k (in_order K q (elements f))

pub record OrderIn (key_text : Bytes) (table : List ℕ) (n place : ℕ) (src cells : List ℕ) (lo hi : ℕ) (order : List ℕ) (r : Option ℕ) : Type 0 where
  pub long : length order ≡ 512
  pub small : (k : ℕ) → r ≡ Some k → k ≤ 512
  pub sorted : OfPlace key_text table n place (λ K q. (f : Forest) → Tape src cells lo hi f → Sorted K q src cells lo hi order f r)

-- one of the entries i to j, those before it and those after it
pub record Picked (src cells : List ℕ) (lo hi : ℕ) (order : List ℕ) (i x j : ℕ) (s : Forest) : Type 0 where
  pub init : Forest
  pub name : Bytes
  pub kids : Forest
  pub rest : Forest
  pub is : s ≡ join init (elem name kids rest)
  pub left : Lists src cells lo hi order i x init
  pub entry : Entry src cells lo hi (get_or order x 0) name kids
  pub right : Lists src cells lo hi order (x + 1) j rest

module _ {src cells : List ℕ} {lo hi : ℕ} where
  pub lists-le : {order : List ℕ} {i j : ℕ} {s : Forest} → Lists src cells lo hi order i j s → i ≤ j
  lists-le (no_more e) = omega arith
  lists-le (one_more e r) = omega (arith, lists-le r)

  pub lists-none : {order : List ℕ} {i : ℕ} {s : Forest} → Lists src cells lo hi order i i s → s ≡ end
  lists-none (no_more e) = refl
  lists-none (one_more e r) = absurd (omega (arith, lists-le r))

  pub lists-join : {order : List ℕ} {i j k : ℕ} {s t : Forest} → Lists src cells lo hi order i j s → Lists src cells lo hi order j k t → Lists src cells lo hi order i k (join s t)
  unfolding join
  lists-join (no_more e) t = rw e t
  lists-join (one_more e r) t = one_more e (lists-join r t)

  -- in another array, d further
  pub lists-moved : {order : List ℕ} {i j : ℕ} {s : Forest} (left : List ℕ) (d i' j' : ℕ) → Lists src cells lo hi order i j s → i' ≡ i + d → j' ≡ j + d
      → ((x y : ℕ) → i ≤ x → x < j → y ≡ x + d → get_or left y 0 ≡ get_or order x 0) → Lists src cells lo hi left i' j' s
  lists-moved left d i' j' (no_more e) a b h = let z : i' ≡ j' = omega arith in no_more z
  lists-moved {order} {i} {j} left d i' j' (one_more {n = n} {k = k} {r = s} e r) a b h =
      let w = h i i' (omega arith) (omega (arith, lists-le r)) a in
      one_more {i = i'} {j = j'} {n = n} {k = k} {r = s} (rw w e) (lists-moved left d (i' + 1) j' r (omega arith) b (λ x y u v z. h x y (omega arith) v z))

  pub lists_at : {order : List ℕ} {i j : ℕ} {s : Forest} (x : ℕ) → Lists src cells lo hi order i j s → i ≤ x → x < j → Picked src cells lo hi order i x j s
  unfolding join
  lists_at x (no_more e) a l = absurd (omega arith)
  lists_at {order} {i} {j} x (one_more {n = n} {k = k} {r = s} e r) a l =
      by-test (eqb i x)
      (λ t.
      let z : i ≡ x = eqb-true i x t in
      record { init = end; name = n; kids = k; rest = s; is = refl; left = no_more z; entry = rw z at e; right = rw z at r })
      (λ t.
      let d = eqb-false i x t in
      let z = lists_at x r (omega arith) l in
      record { init = elem n k z.init; name = z.name; kids = z.kids; rest = z.rest; is = ap (elem n k) z.is; left = one_more e z.left; entry = z.entry; right = z.right })

-- ---- an entry put in
module _ {order : List ℕ} {k j p : ℕ} {left : List ℕ} (x : Inserted order k j p left) (inside : j ≤ k) where
  pub inserted-all : (P : ℕ → Type 0) → AllEntries P order k → P p → AllEntries P left (k + 1)
  inserted-all P h a i l =
      by-test (ltb i j)
      (λ t. let u = ltb-true i j t in rw (x.below i u) (h i (omega arith)))
      (λ t.
      let u = ltb-false i j t in
      by-test (eqb i j)
      (λ y. let z = eqb-true i j y in rw (z, x.here) a)
      (λ y.
      let z = eqb-false i j y in
      let e : i ≡ i - 1 + 1 = omega arith in
      let w = x.further (i - 1) (omega arith) (omega arith) in
      rw (e, w) (h (i - 1) (omega arith))))

pub inserted : {order : List ℕ} {k j p : ℕ} {left : List ℕ} → left ≡ insert_at k j p order → length order ≡ 512 → j ≤ k → k < 512 → Inserted order k j p left
unfolding insert_at
inserted {order} {k} {j} {p} e long inside room =
    let t = length-take-le j order (omega arith) in
    let s = length-slice j k order (omega arith) in
    let rest = slice j k order ++ drop (suc k) order in
    rw e
    (record {
      long = omega (arith, length-append (take j order) (p ∷ rest), length-append (slice j k order) (drop (suc k) order), length-drop (suc k) order);
      below = λ i h. get_or-append (take j order) (p ∷ rest) 0 i (omega arith) ∙ get_or-take j order i 0 h;
      here = get_or_at (take j order) p rest 0 j t;
      further = λ i a l.
          let z : i + 1 ≡ length (take j order) + suc (i - j) = omega arith in
          let w : j + (i - j) ≡ i = omega arith in
          ap (λ x. get_or (take j order ++ p ∷ rest) x 0) z ∙ get_or-append-add (take j order) (p ∷ rest) (suc (i - j)) 0
          ∙ get_or-append (slice j k order) (drop (suc k) order) 0 (i - j) (omega arith) ∙ get_or-drop j (take k order) (i - j) 0
          ∙ ap (λ x. get_or (take k order) x 0) w ∙ get_or-take k order i 0 l;
    })

-- ---- the entries from i to k one further
unfoldable pub shifted_to : ℕ → ℕ → List ℕ → List ℕ
shifted_to k i order = take (suc i) order ++ (slice i k order ++ drop (suc k) order)

module _ (order : List ℕ) (k : ℕ) (room : k < length order) where
  pub shifted-put : (i v : ℕ) → i ≤ k → set (shifted_to k i order) i v ≡ insert_at k i v order
  unfolding shifted_to insert_at
  shifted-put i v l =
      let rest = slice i k order ++ drop (suc k) order in
      ap (λ x. set x i v) (ap (λ x. x ++ rest) (take-suc order i 0 (omega arith)) ∙ append_assoc (take i order) (get_or order i 0 ∷ []) rest)
      ∙ set_at (take i order) (get_or order i 0) rest v i (length-take-le i order (omega arith))

  shifted-copy : (j : ℕ) → j ≤ k → copy_within order j k (j + 1) ≡ shifted_to k j order
  unfolding shifted_to
  shifted-copy j l =
      let e : j + (k - j) ≡ k = omega arith in
      let d : j + 1 + (k - j) ≡ suc k = omega arith in
      let z : j + 1 ≡ suc j = omega arith in
      ap (λ (x : List ℕ). (take (j + 1) order ++ x) ++ drop (j + 1 + (k - j)) order) (sym (drop-take j (k - j) order) ∙ ap (λ (x : ℕ). drop j (take x order)) e)
      ∙ ap (λ (x : ℕ). (take (j + 1) order ++ slice j k order) ++ drop x order) d
      ∙ ap (λ (x : ℕ). (take x order ++ slice j k order) ++ drop (suc k) order) z
      ∙ append_assoc (take (suc j) order) (slice j k order) (drop (suc k) order)

  pub inserted-is : (j v : ℕ) → j ≤ k → set (copy_within order j k (j + 1)) j v ≡ insert_at k j v order
  inserted-is j v l = ap (λ x. set x j v) (shifted-copy j l) ∙ shifted-put j v l
