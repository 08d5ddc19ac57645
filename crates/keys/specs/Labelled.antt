-- What the comparison of two elements' labels asks, and what it answers.
use Rattle.std.specs.Prelude.{ℕ, ◌+◌, ◌≡◌, Bool, true, List, map}
use Rattle.std.specs.declared.cmp.Ordering.{Ordering}
use Rattle.std.specs.Ordering.{ordering_index}
use Rattle.xml.specs.Bytes.{Bytes, all}
use Rattle.xml.specs.Forest.{Forest}
use Rattle.xml.specs.Tape.{next_at, Node, Tape}
use Rattle.model.specs.Orders.{labels}
use Rattle.keys.specs.KeyList.{Path, KeyList, key_names_at}
use Rattle.keys.specs.Version.{◌▸◌, called, is_one_value, value_in, label}
use Rattle.keys.specs.Table.{place_of, Table}
use Rattle.keys.specs.Placed.{OfPlace}
use Rattle.keys.specs.Ranks.{rank}

-- the key values of an element that holds f, whose key has these names
abbrev pub values_of : List Bytes → Forest → List Bytes
values_of ns f = map (λ key. value_in (called key f)) ns

-- each key child is there just once, with a legal value
abbrev pub has_keys : List Bytes → Forest → Bool
has_keys ns f = all (λ key. is_one_value (called key f)) ns

-- the nodes lo to hi are what an element at the place holds, and it has its key children
pub record KeyedAt (text : Bytes) (table : List ℕ) (n place : ℕ) (src cells : List ℕ) (lo hi : ℕ) : Type 0 where
  pub key_list : KeyList
  pub path : Path
  pub tabled : Table text table n key_list
  pub place_is : place_of key_list path ≡ place
  pub kids : Forest
  pub tape : Tape src cells lo hi kids
  pub once : has_keys (key_names_at key_list path) kids ≡ true

-- node p is an element in an element at the place, and it has its key children
pub record Labelled (text : Bytes) (table : List ℕ) (n place : ℕ) (src cells : List ℕ) (p : ℕ) : Type 0 where
  pub key_list : KeyList
  pub path : Path
  pub tabled : Table text table n key_list
  pub place_is : place_of key_list path ≡ place
  pub name : Bytes
  pub kids : Forest
  pub node : Node src cells p 1 name
  pub tape : Tape src cells (p + 1) (next_at cells p) kids
  pub once : has_keys (key_names_at key_list (path ▸ name)) kids ≡ true

-- node q is an element in an element of path p, and it has its key children
pub record LabelledIn (K : KeyList) (p : Path) (src cells : List ℕ) (q : ℕ) : Type 0 where
  pub name : Bytes
  pub kids : Forest
  pub node : Node src cells q 1 name
  pub tape : Tape src cells (q + 1) (next_at cells q) kids
  pub once : has_keys (key_names_at K (p ▸ name)) kids ≡ true

-- nodes p1 and p2 are such elements, both in an element of one path, and the first is at the place `own`
pub record Beside (text : Bytes) (table : List ℕ) (n own : ℕ) (src1 cells1 : List ℕ) (p1 : ℕ) (src2 cells2 : List ℕ) (p2 : ℕ) : Type 0 where
  pub key_list : KeyList
  pub path : Path
  pub tabled : Table text table n key_list
  pub first : LabelledIn key_list path src1 cells1 p1
  pub second : LabelledIn key_list path src2 cells2 p2
  pub place_is : place_of key_list (path ▸ first.name) ≡ own

-- r is how the key values of two elements at one place compare
abbrev pub KeysCompared : Bytes → List ℕ → ℕ → ℕ → List ℕ → List ℕ → ℕ → ℕ → List ℕ → List ℕ → ℕ → ℕ → Ordering → Type 0
KeysCompared text table n place src1 tape1 lo1 hi1 src2 tape2 lo2 hi2 r =
    OfPlace text table n place
    (λ K p. (f1 f2 : Forest) → Tape src1 tape1 lo1 hi1 f1 → Tape src2 tape2 lo2 hi2 f2
    → ordering_index r ≡ rank (labels.cmp (values_of (key_names_at K p) f1) (values_of (key_names_at K p) f2)))

-- r is how the labels of two elements, each in an element at the place, compare
abbrev pub LabelsCompared : Bytes → List ℕ → ℕ → ℕ → List ℕ → List ℕ → ℕ → List ℕ → List ℕ → ℕ → Ordering → Type 0
LabelsCompared text table n place src1 tape1 p1 src2 tape2 p2 r =
    OfPlace text table n place
    (λ K p. (m1 : Bytes) (k1 : Forest) (m2 : Bytes) (k2 : Forest)
    → Node src1 tape1 p1 1 m1 → Tape src1 tape1 (p1 + 1) (next_at tape1 p1) k1 → Node src2 tape2 p2 1 m2 → Tape src2 tape2 (p2 + 1) (next_at tape2 p2) k2
    → ordering_index r ≡ rank (labels.cmp (label K p m1 k1) (label K p m2 k2)))

-- the same where the first element is at the place `own`
abbrev pub LabelsComparedAt : Bytes → List ℕ → ℕ → ℕ → List ℕ → List ℕ → ℕ → List ℕ → List ℕ → ℕ → Ordering → Type 0
LabelsComparedAt text table n own src1 tape1 p1 src2 tape2 p2 r =
    (K : KeyList) (p : Path) (m1 : Bytes) (k1 : Forest) (m2 : Bytes) (k2 : Forest) → Table text table n K → place_of K (p ▸ m1) ≡ own
    → Node src1 tape1 p1 1 m1 → Tape src1 tape1 (p1 + 1) (next_at tape1 p1) k1 → Node src2 tape2 p2 1 m2 → Tape src2 tape2 (p2 + 1) (next_at tape2 p2) k2
    → ordering_index r ≡ rank (labels.cmp (label K p m1 k1) (label K p m2 k2))
