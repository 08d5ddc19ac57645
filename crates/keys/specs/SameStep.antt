-- A step of an address and an element on a tape: what their comparison asks, and what it answers.
use Rattle.std.specs.Prelude.{ℕ, suc, ◌+◌, ◌<◌, ◌≤◌, ◌≡◌, refl, Bool, true, false, ◌&&◌, List, [], ◌∷◌, map, length, take, drop, get_or}
use Rattle.std.proofs.Common.{add-one, arith, sym, ◌∙◌, subst, drop_of_length-le, drop-cons, take-suc, get_or-take}
use Rattle.std.proofs.Math.Path.{ap, ap₂}
use mathlib.Core.Ordering.{Ordering, lt, eq, gt}
use Rattle.std.proofs.lemmas.List.{map-append}
use Rattle.std.proofs.Math.Seq.{length-take-le}
use Rattle.xml.specs.Bytes.{Bytes, same}
use Rattle.xml.specs.BytesLaws.{same-is}
use Rattle.xml.specs.Forest.{Forest}
use Rattle.xml.specs.Tape.{next_at, Node, Tape}
use Rattle.model.specs.Orders.{next, cmp_l, labels, is_eq}
use Rattle.keys.specs.KeyList.{Path, KeyList, key_names_at}
use Rattle.keys.specs.Version.{◌▸◌, Label, name_in, called, value_in, label, same_label}
use Rattle.keys.specs.Table.{Table}
use Rattle.keys.specs.Placed.{OfPlace}
use Rattle.keys.specs.Ranks.{compare_bytes, same-compare}
use Rattle.keys.specs.Labelled.{values_of, has_keys, KeyedAt}
use Rattle.keys.specs.AddressParts.{piece, Inside, path_to, StepAs, StepIs}

-- ---- contracts
-- the nodes lo to hi are what an element at the place holds, with its key children; the positions are those of as many key values
pub record KeysAsked (text : Bytes) (table : List ℕ) (n own : ℕ) (s : Bytes) (keys src cells : List ℕ) (lo hi : ℕ) : Type 0 where
  pub keyed : KeyedAt text table n own src cells lo hi
  pub inside : Inside s (length (key_names_at keyed.key_list keyed.path)) keys

-- the values at the positions are those of the element
abbrev pub KeysSame : Bytes → List ℕ → ℕ → ℕ → Bytes → List ℕ → List ℕ → List ℕ → ℕ → ℕ → Bool → Type 0
KeysSame text table n own s keys src cells lo hi r =
    OfPlace text table n own
    (λ K p. (f : Forest) → Tape src cells lo hi f → r ≡ same_label (map (piece s) (take (length (key_names_at K p)) keys)) (values_of (key_names_at K p) f))

-- a step of the address s below the path, and an element there with its key children
pub record StepAsked (text : Bytes) (table : List ℕ) (n : ℕ) (s : Bytes) (name place : ℕ) (values src cells : List ℕ) (p : ℕ) : Type 0 where
  pub key_list : KeyList
  pub path : Path
  pub tabled : Table text table n key_list
  pub step : Label
  pub step_is : StepAs key_list s step (path ▸ name_in step) name place values
  pub called-as : Bytes
  pub kids : Forest
  pub node : Node src cells p 1 called-as
  pub tape : Tape src cells (p + 1) (next_at cells p) kids
  pub once : has_keys (key_names_at key_list (path ▸ called-as)) kids ≡ true

-- r says whether the step has the label of the element
abbrev pub StepSame : Bytes → List ℕ → ℕ → Bytes → ℕ → ℕ → List ℕ → List ℕ → List ℕ → ℕ → Bool → Type 0
StepSame text table n s name place values src cells p r =
    (K : KeyList) (q : Path) (l : Label) → Table text table n K → StepAs K s l (q ▸ name_in l) name place values
    → (m : Bytes) (k : Forest) → Node src cells p 1 m → Tape src cells (p + 1) (next_at cells p) k → r ≡ same_label l (label K q m k)

-- ---- the path of a step is its name below those above it
pub path-to : (ls : List Label) (i : ℕ) → i < length ls → path_to ls i ≡ map name_in (take i ls) ▸ name_in (get_or ls i [])
path-to ls i h = ap (map name_in) (take-suc ls i [] h) ∙ map-append name_in (take i ls) (get_or ls i [] ∷ [])

-- so a parsed step is one below them
pub step-below : (K : KeyList) (s : Bytes) (ls : List Label) (names places : List ℕ) (values : List (List ℕ)) (i : ℕ) → i < length ls → StepIs K s ls names places values i
    → StepAs K s (get_or ls i []) (map name_in (take i ls) ▸ name_in (get_or ls i [])) (get_or names i 0) (get_or places i 0) (get_or values i [])
step-below K s ls names places values i h r = subst (λ (z : Path). StepAs K s (get_or ls i []) z (get_or names i 0) (get_or places i 0) (get_or values i [])) (path-to ls i h) r

-- ---- labels one by one
next-same : (o p : Ordering) → is_eq (next o p) ≡ (is_eq o && is_eq p)
next-same lt p = refl
next-same eq p = refl
next-same gt p = refl

same-cons : (a b : Bytes) (vs ws : List Bytes) → same_label (a ∷ vs) (b ∷ ws) ≡ (same a b && same_label vs ws)
unfolding same_label cmp_l
same-cons a b vs ws = next-same (compare_bytes a b) (labels.cmp vs ws) ∙ ap (λ z. z && is_eq (labels.cmp vs ws)) (sym (same-compare a b))

-- ---- the values from key j on
module _ (s : Bytes) (keys : List ℕ) (ns : List Bytes) (f : Forest) where
  abbrev pub From : ℕ → Bool
  From j = same_label (map (piece s) (drop j (take (length ns) keys))) (values_of (drop j ns) f)

  module _ (j : ℕ) (h : j < length ns) (l : length ns ≤ length keys) {key b : Bytes} (k : key ≡ get_or ns j []) (y : b ≡ value_in (called key f)) where
    turn : From j ≡ (same (piece s (get_or keys j 0)) b && From (j + 1))
    turn =
        let i : j < length (take (length ns) keys) = omega (arith, length-take-le (length ns) keys l) in
        ap₂ same_label
        (ap (map (piece s)) (drop-cons (take (length ns) keys) j 0 i) ∙ ap (λ z. piece s z ∷ map (piece s) (drop (suc j) (take (length ns) keys))) (get_or-take (length ns) keys j 0 h))
        (ap (λ z. values_of z f) (drop-cons ns j [] h) ∙ ap (λ z. z ∷ values_of (drop (suc j) ns) f) (sym (y ∙ ap (λ z. value_in (called z f)) k)))
        ∙ same-cons (piece s (get_or keys j 0)) b _ _
        ∙ rw (add-one j) refl

    pub keys-differ : same (piece s (get_or keys j 0)) b ≡ false → From j ≡ false
    keys-differ e = turn ∙ rw e refl

    pub keys_on : same (piece s (get_or keys j 0)) b ≡ true → From j ≡ From (j + 1)
    keys_on e = turn ∙ rw e refl

  pub keys-done : (j : ℕ) → j ≡ length ns → length ns ≤ length keys → From j ≡ true
  unfolding same_label cmp_l
  keys-done j e l =
      ap₂ same_label (ap (map (piece s)) (drop_of_length-le (take (length ns) keys) {i = j} (omega (arith, length-take-le (length ns) keys l)))) (ap (λ z. values_of z f) (drop_of_length-le ns {i = j} (omega arith)))

-- ---- the name first
module _ (K : KeyList) (s : Bytes) (l : Label) (q : Path) {name place : ℕ} {values : List ℕ} (a : StepAs K s l (q ▸ name_in l) name place values) (m : Bytes) (k : Forest) where
  step-name : name_in l ≡ piece s name
  unfolding name_in
  step-name = ap name_in a.label_is

  both-named : same_label l (label K q m k) ≡ (same (piece s name) m && same_label (map (piece s) (take (length (key_names_at K (q ▸ name_in l))) values)) (values_of (key_names_at K (q ▸ m)) k))
  unfolding label
  both-named = ap (λ z. same_label z (label K q m k)) a.label_is ∙ same-cons (piece s name) m _ _

  pub named_other : same (piece s name) m ≡ false → false ≡ same_label l (label K q m k)
  named_other e = sym (both-named ∙ rw e refl)

  pub named-same : same (piece s name) m ≡ true → q ▸ name_in l ≡ q ▸ m
  named-same e = ap (λ z. q ▸ z) (step-name ∙ same-is (piece s name) m e)

  pub named-on : (e : same (piece s name) m ≡ true) {r : Bool}
      → r ≡ same_label (map (piece s) (take (length (key_names_at K (q ▸ m))) values)) (values_of (key_names_at K (q ▸ m)) k) → r ≡ same_label l (label K q m k)
  named-on e h = h ∙ sym (both-named ∙ rw (e, named-same e) refl)
