-- The loops of loading: counting a row, walking down a context, and the tests of a line.
use Prim.Native.Nat.{ℕ, ◌+◌, ◌<◌, ◌≤◌}
use native.Mathlib.Omega.{arith}
use mathlib.Core.Path.{◌≡◌, refl, sym, ◌∙◌, ap, subst}
use mathlib.Core.Bool.{Bool, true, false, not}
use mathlib.Core.List.{List, [], ◌∷◌, ◌++◌, append_assoc, append-nil}
use lib.Dec.{ltb, leb}
use lib.ListN.{length, take, drop}
use lib.Seq.{slice}
use borrow.Author.Tests.{leb-true, leb-false, lt-ltb, le-ltb}
use Rattle.xml.specs.Bytes.{Bytes}
use Rattle.xml.specs.Read.{name_len}
use Rattle.xml.specs.Truth.{bool_by}
use Rattle.keys.specs.KeyList.{Path, KeyList}
use Rattle.keys.specs.Version.{◌▸◌}
use Rattle.keys.specs.Table.{place_of, Table, parent_in, keys_in}
use Rattle.keys.specs.Placed.{Placed, OfPlace}
use Rattle.keys.specs.Rows.{Row, Rowed}
use Rattle.keys.proofs.RowLaws.{row_next, row-end}
use Rattle.keys.specs.Contexts.{PlaceOfRow, CountOfRow}
use Rattle.keys.specs.Loading.{Tabled, line_in, Decides, Small}

-- ---- a row, counted
-- k names of the row are behind i
abbrev pub Counted : ℕ → Bytes → ℕ → ℕ → ℕ → ℕ → Type 0
Counted d text e from i k = (ns : List Bytes) → Row d text e from ns → (ms : List Bytes) × Row d text e i ms × (length ns ≡ k + length ms)

pub count-starts : {d : ℕ} {text : Bytes} {e from : ℕ} → Counted d text e from from 0
count-starts ns r = (ns, r, omega arith)

pub count_turn : {d : ℕ} {text : Bytes} {e from i m : ℕ} (k : ℕ) → Counted d text e from i k → i + d < e → m ≡ name_len (drop (i + d) text) → Counted d text e from (i + (d + m)) (k + 1)
count_turn {d} {text} {e} {from} {i} {m} k a h q ns r =
    let t = a ns r in
    let x = row_next t.1 h q in
    let z : i + d + m ≡ i + (d + m) = omega arith in
    (x.rest, subst (λ (j : ℕ). Row d text e j x.rest) z x.row, omega (arith, t.2, ap length x.is))

pub count-ends : {d : ℕ} {text : Bytes} {e from i : ℕ} {k : ℕ} → Counted d text e from i k → e ≤ i + d → CountOfRow d text from e k
count-ends a h ns r = let t = a ns r in omega (arith, t.2, ap length (row-end t.1 h))

pub rowed-go : {d : ℕ} {text : Bytes} {e i k : ℕ} → Rowed d text e i → i + d < e → k ≡ name_len (drop (i + d) text) → Rowed d text e (i + (d + k))
rowed-go {d} {text} {e} {i} {k} r h q = let z : i + d + k ≡ i + (d + k) = omega arith in let x = row_next r.row h q in record { names = x.rest; row = subst (λ (j : ℕ). Row d text e j x.rest) z x.row }

-- ---- down a context
pub record Way (text : Bytes) (e i place : ℕ) (K : KeyList) (p : Path) : Type 0 where
  pub gone : Path
  pub left : Path
  pub joined : gone ++ left ≡ p
  pub place_is : place_of K gone ≡ place
  pub row : Row 1 text e i left

abbrev pub Walked : Bytes → ℕ → List ℕ → ℕ → ℕ → ℕ → ℕ → ℕ → Type 0
Walked text at cells n from e i place = (K : KeyList) (p : Path) → Table (take at text) cells n K → Row 1 text e from p → Way text e i place K p

module _ (text : Bytes) (at : ℕ) (cells : List ℕ) (n from e i place : ℕ) (w : Walked text at cells n from e i place) where
  pub walk-placed : Tabled (take at text) cells n → Rowed 1 text e from → Placed (take at text) cells n place
  walk-placed t r = let x = w t.keys r.names t.table r.row in record { key_list = t.keys; path = x.gone; table = t.table; place_is = x.place_is }

  pub walk_turn : (m r : ℕ) → i + 1 < e → m ≡ name_len (drop (i + 1) text) → OfPlace (take at text) cells n place (λ K p. r ≡ place_of K (p ▸ slice (i + 1) (i + 1 + m) text))
      → Walked text at cells n from e (i + (1 + m)) r
  walk_turn m r h q f K p t o =
      let x = w K p t o in
      let y = row_next x.row h q in
      let z : i + 1 + m ≡ i + (1 + m) = omega arith in
      record {
        gone = x.gone ▸ y.name;
        left = y.rest;
        joined = append_assoc x.gone (y.name ∷ []) y.rest ∙ ap (λ (s : Path). x.gone ++ s) (sym y.is) ∙ x.joined;
        place_is = ap (λ (s : Bytes). place_of K (x.gone ▸ s)) (sym y.part) ∙ sym (f K x.gone t x.place_is);
        row = subst (λ (j : ℕ). Row 1 text e j y.rest) z y.row;
      }

  pub walk_ends : e ≤ i + 1 → PlaceOfRow text at cells n from e place
  walk_ends h K p t o =
      let x = w K p t o in
      sym x.place_is ∙ ap (place_of K) (sym (append-nil x.gone) ∙ ap (λ (s : Path). x.gone ++ s) (sym (row-end x.row h)) ∙ x.joined)

-- ---- tests
module _ (cells : List ℕ) (n i : ℕ) where
  pub line-out : n ≤ i → line_in cells n i ≡ false
  line-out h = rw (le-ltb i n h)

  pub line-root : i < n → i ≤ parent_in cells i → line_in cells n i ≡ true
  line-root h g = rw (lt-ltb i n h, le-ltb (parent_in cells i) i g)

  pub line-later : i < n → parent_in cells i < i → line_in cells n i ≡ ltb (parent_in cells i + keys_in cells (parent_in cells i)) i
  line-later h g = rw (lt-ltb i n h, lt-ltb (parent_in cells i) i g) (flip i (parent_in cells i + keys_in cells (parent_in cells i)))
    where
      flip : (a b : ℕ) → not (leb a b) ≡ ltb b a
      flip a b = bool_by (λ x. not x ≡ ltb b a) (leb a b) (λ e. sym (le-ltb b a (leb-true a b e))) (λ e. sym (lt-ltb b a (leb-false a b e)))

pub decides : {P : Type 0} (b : Bool) → (b ≡ true → P) → (b ≡ false → P → ⊥) → Decides b P
decides true f g = f refl
decides false f g = g refl

pub small-bare : (depth keys n : ℕ) → depth + 1 ≤ 8 → keys ≡ 0 → Decides (leb (n + 1) 128) (Small depth keys n)
small-bare depth keys n h z = decides (leb (n + 1) 128)
    (λ e. (h, λ l. absurd (omega arith), let y = leb-true (n + 1) 128 e in omega arith))
    (λ e s. let y = leb-false (n + 1) 128 e in omega (arith, s.2))

pub small-keyed : (depth keys n : ℕ) → depth + 2 ≤ 8 → Decides (leb (n + 1 + keys) 128) (Small depth keys n)
small-keyed depth keys n h = decides (leb (n + 1 + keys) 128)
    (λ e. (omega arith, λ _. h, leb-true (n + 1 + keys) 128 e))
    (λ e s. let y = leb-false (n + 1 + keys) 128 e in omega (arith, s.2))
