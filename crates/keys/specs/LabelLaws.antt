-- Laws of comparing labels: names first, then key values one by one.
use Rattle.std.specs.Prelude.{ℕ, ◌+◌, ◌<◌, ◌≤◌, ◌≡◌, refl, true, List, [], ltb, length, get_or, drop}
use Rattle.std.proofs.Common.{add-one, arith, sym, ◌∙◌, drop-cons, ltb-true, ltb-false}
use Rattle.std.proofs.Math.Path.{ap}
use mathlib.Core.Ordering.{Ordering, lt, eq, gt}
use Rattle.std.proofs.Math.Seq.{slice, drop-length}
use Rattle.xml.specs.Bytes.{Bytes}
use Rattle.xml.specs.Truth.{by-test, all-mem}
use Rattle.xml.specs.Forest.{Forest}
use Rattle.xml.specs.Tape.{Node, Tape}
use Rattle.xml.specs.TapeLaws.{tape-one}
use Rattle.model.specs.Orders.{next, cmp_l, numbers, lists, labels, is_eq}
use Rattle.keys.specs.KeyList.{Path, KeyList, key_names_at}
use Rattle.keys.specs.Version.{◌▸◌, Label, called, is_one_value, value_in, label, same_label}
use Rattle.keys.specs.Table.{place_of, name_start, name_end, Table}
use Rattle.keys.specs.PlaceLaws.{mem-at}
use Rattle.keys.specs.TableLaws.{table-bare, table-key-path, table-key-name}
use Rattle.keys.specs.Ranks.{rank, rank-eq, compare_bytes}
use Rattle.keys.specs.FindKey.{KeyAt, key-value}
use Rattle.keys.specs.Labelled.{values_of, KeyedAt}

next-not : (o p : Ordering) → (rank o ≡ 1 → ⊥) → next o p ≡ o
next-not lt p h = refl
next-not eq p h = absurd (h refl)
next-not gt p h = refl

-- ---- the key names of the path at a place, in the table
module _ {text : Bytes} {table : List ℕ} {n : ℕ} {K : KeyList} (t : Table text table n K) (p : Path) (own : ℕ) (e : place_of K p ≡ own) (j : ℕ) (h : j < length (key_names_at K p)) where
  key-own : own < n
  key-own = by-test (ltb own n) (ltb-true own n) (λ b. absurd (omega (arith, ap length (table-bare t p own e (ltb-false own n b)))))

  pub key-room : own + 1 + j < n
  key-room = (table-key-path t p own e key-own j h).0

  pub key-within : name_end table (own + 1 + j) ≤ length text
  key-within = (table-key-name t p own e key-own j h).0

  pub key-name-is : slice (name_start table (own + 1 + j)) (name_end table (own + 1 + j)) text ≡ get_or (key_names_at K p) j []
  key-name-is = (table-key-name t p own e key-own j h).1

-- the bytes of a key name
abbrev pub key_bytes : Bytes → List ℕ → ℕ → Bytes
key_bytes text table q = slice (name_start table q) (name_end table q) text

module _ {text : Bytes} {table : List ℕ} {n own : ℕ} {src cells : List ℕ} {lo hi : ℕ} (i : ℕ) (g : KeyedAt text table n own src cells lo hi)
    (l : i < length (key_names_at g.key_list g.path)) where
  held-once : is_one_value (called (key_bytes text table (own + 1 + i)) g.kids) ≡ true
  held-once =
      rw (key-name-is g.tabled g.path own g.place_is i l)
      (all-mem (λ key. is_one_value (called key g.kids)) (mem-at (key_names_at g.key_list g.path) i l) g.once)

  -- the value of key i, where the search for its child ended
  pub value-node : (x : ℕ) → ((f : Forest) → Tape src cells lo hi f → KeyAt src cells (key_bytes text table (own + 1 + i)) hi x (called (key_bytes text table (own + 1 + i)) f))
      → (f : Forest) → Tape src cells lo hi f → Node src cells (x + 1) 0 (value_in (called (key_bytes text table (own + 1 + i)) f))
  value-node x a f h = key-value (a f h) (rw (tape-one h g.tape) held-once)

-- ---- values one by one
values-next : (ns : List Bytes) (f1 f2 : Forest) (i : ℕ) → i < length ns →
    labels.cmp (values_of (drop i ns) f1) (values_of (drop i ns) f2)
    ≡ next (compare_bytes (value_in (called (get_or ns i []) f1)) (value_in (called (get_or ns i []) f2))) (labels.cmp (values_of (drop (i + 1) ns) f1) (values_of (drop (i + 1) ns) f2))
unfolding cmp_l
values-next ns f1 f2 i h = rw (add-one i, drop-cons ns i [] h) refl

module _ (ns : List Bytes) (f1 f2 : Forest) (i : ℕ) {key a b : Bytes} (l : i < length ns) (k : key ≡ get_or ns i []) (x : a ≡ value_in (called key f1)) (y : b ≡ value_in (called key f2)) where
  turn : labels.cmp (values_of (drop i ns) f1) (values_of (drop i ns) f2)
      ≡ next (compare_bytes a b) (labels.cmp (values_of (drop (i + 1) ns) f1) (values_of (drop (i + 1) ns) f2))
  turn = values-next ns f1 f2 i l ∙ rw (x, y, k) refl

  pub values-differ : (rank (compare_bytes a b) ≡ 1 → ⊥) → labels.cmp (values_of (drop i ns) f1) (values_of (drop i ns) f2) ≡ compare_bytes a b
  values-differ h = turn ∙ next-not (compare_bytes a b) _ h

  pub values-on : rank (compare_bytes a b) ≡ 1
      → labels.cmp (values_of (drop i ns) f1) (values_of (drop i ns) f2) ≡ labels.cmp (values_of (drop (i + 1) ns) f1) (values_of (drop (i + 1) ns) f2)
  values-on h = turn ∙ ap (λ o. next o (labels.cmp (values_of (drop (i + 1) ns) f1) (values_of (drop (i + 1) ns) f2))) (rank-eq (compare_bytes a b) h)

pub values-done : (ns : List Bytes) (f1 f2 : Forest) (i : ℕ) → i ≡ length ns → labels.cmp (values_of (drop i ns) f1) (values_of (drop i ns) f2) ≡ eq
unfolding cmp_l
values-done ns f1 f2 i e = rw (e, drop-length ns) refl

-- ---- the name first
module _ (K : KeyList) (p : Path) (m1 : Bytes) (k1 : Forest) (m2 : Bytes) (k2 : Forest) where
  pub names-differ : (rank (compare_bytes m1 m2) ≡ 1 → ⊥) → labels.cmp (label K p m1 k1) (label K p m2 k2) ≡ compare_bytes m1 m2
  unfolding cmp_l label
  names-differ h = next-not (compare_bytes m1 m2) _ h

  pub names_same : rank (compare_bytes m1 m2) ≡ 1 → m1 ≡ m2
  names_same h = (lists numbers).same (rank-eq (compare_bytes m1 m2) h)

  pub names-on : rank (compare_bytes m1 m2) ≡ 1
      → labels.cmp (label K p m1 k1) (label K p m2 k2) ≡ labels.cmp (values_of (key_names_at K (p ▸ m1)) k1) (values_of (key_names_at K (p ▸ m1)) k2)
  unfolding cmp_l label
  names-on h =
      ap (λ o. next o (cmp_l (lists numbers) (values_of (key_names_at K (p ▸ m1)) k1) (values_of (key_names_at K (p ▸ m2)) k2))) (rank-eq (compare_bytes m1 m2) h)
      ∙ ap (λ m. cmp_l (lists numbers) (values_of (key_names_at K (p ▸ m1)) k1) (values_of (key_names_at K (p ▸ m)) k2)) (sym (names_same h))

-- ---- what an answer says
pub same-label : (a b : Label) → rank (labels.cmp a b) ≡ 1 → same_label a b ≡ true
unfolding same_label
same-label a b h = ap is_eq (rank-eq (labels.cmp a b) h)
