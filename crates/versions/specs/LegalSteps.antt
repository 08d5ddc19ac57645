-- Legal elements above the frontiers: the tests of one element, and the label of the one before.
use Rattle.std.specs.Prelude.{ℕ, ◌+◌, ◌<◌, ◌≤◌, ◌≡◌, Bool, ◌&&◌, List}
use Rattle.std.proofs.Common.{arith, sym, ◌∙◌}
use Rattle.std.proofs.Math.Path.{refl, ap}
use Rattle.std.proofs.Math.Bool.{true, false, not}
use Rattle.std.proofs.Math.Option.{Option, none, some}
use mathlib.Core.Ordering.{Ordering, lt, eq, gt}
use Rattle.std.proofs.Math.Dec.{eqb}
use Rattle.xml.specs.Bytes.{Bytes, bytes, all, same}
use Rattle.xml.specs.Truth.{by-test, and_left, and_right}
use Rattle.xml.specs.Forest.{Forest}
use Rattle.xml.specs.Tape.{next_at, Node, Tape}
use Rattle.xml.specs.TapeLaws.{bytes_at}
use Rattle.model.specs.Orders.{labels, is_lt}
use Rattle.keys.specs.KeyList.{Path, KeyList, rules_kept, listed, above, key_names_at}
use Rattle.keys.specs.KeyListLaws.{front-bare}
use Rattle.keys.specs.Version.{◌▸◌, Label, label, called, is_one_value, before}
use Rattle.keys.specs.Table.{place_of, Table}
use Rattle.keys.specs.Placed.{Placed, OfPlace}
use Rattle.keys.specs.PlaceLaws.{few-paths, place-below, place-unlisted}
use Rattle.keys.specs.Walks.{Walk}
use Rattle.keys.specs.Ranks.{rank}
use Rattle.keys.specs.Labelled.{has_keys, Labelled}
use Rattle.timestamp.specs.Times.{Times}
use Rattle.timestamp.specs.Listed.{listed as times_of, Only}
use Rattle.versions.specs.Walk.{front_legal, precedes, siblings_legal}

-- an element m that holds k, in the versions t
unfoldable pub element_legal : KeyList → ℕ → Path → Times → Bytes → Forest → Bool
element_legal K n p t m k =
    listed K (p ▸ m) && not (same m (bytes "T"))
    && elim (above K (p ▸ m)) [
      | true ↦ all (λ key. is_one_value (called key k)) (key_names_at K (p ▸ m)) && siblings_legal K n (p ▸ m) t k
      | false ↦ front_legal n t k
    ]

-- the label o of the sibling before, whose element `last` is; there is none if it is at or past hi
pub data LastIs (K : KeyList) (q : Path) (src cells : List ℕ) (hi last : ℕ) : Option Label → Type 0 where
  no_last : hi ≤ last → LastIs K q src cells hi last none
  last-is : {m : Bytes} {k : Forest} → last < hi → Node src cells last 1 m → Tape src cells (last + 1) (next_at cells last) k → has_keys (key_names_at K (q ▸ m)) k ≡ true
      → LastIs K q src cells hi last (some (label K q m k))

-- r says that the element e comes after the one before
abbrev pub Ascends : Bytes → List ℕ → ℕ → ℕ → List ℕ → List ℕ → ℕ → ℕ → ℕ → Bool → Type 0
Ascends keys table np place src cells hi last e r =
    OfPlace keys table np place
    (λ K q. (o : Option Label) (m : Bytes) (k : Forest) → LastIs K q src cells hi last o → Node src cells e 1 m → Tape src cells (e + 1) (next_at cells e) k
    → r ≡ precedes o (some (label K q m k)))

-- what is asked of the element e, in one at the place, in the versions t, and what is answered
pub record ElementAsked (text : Bytes) (table : List ℕ) (np place : ℕ) (src cells : List ℕ) (e n : ℕ) (t : ℕ → Bool) : Type 0 where
  pub placed : Placed text table np place
  pub name : Bytes
  pub kids : Forest
  pub node : Node src cells e 1 name
  pub tape : Tape src cells (e + 1) (next_at cells e) kids
  pub few : n ≤ 999
  pub only : Only n t

abbrev pub ElementSaid : Bytes → List ℕ → ℕ → ℕ → List ℕ → List ℕ → ℕ → ℕ → (ℕ → Bool) → Bool → Type 0
ElementSaid keys table np place src cells e n t r =
    OfPlace keys table np place
    (λ K q. (m : Bytes) (k : Forest) → Node src cells e 1 m → Tape src cells (e + 1) (next_at cells e) k → r ≡ element_legal K n q (times_of n t) m k)

-- ---- labels ascend
rank-first : (o : Ordering) → eqb (rank o) 0 ≡ is_lt o
rank-first lt = refl
rank-first eq = refl
rank-first gt = refl

module _ {K : KeyList} {q : Path} {src cells : List ℕ} {hi last : ℕ} where
  pub ascends_none : (l : Label) {o : Option Label} → LastIs K q src cells hi last o → hi ≤ last → precedes o (some l) ≡ true
  unfolding precedes
  ascends_none l (no_last e) h = refl
  ascends_none l (last-is b d x y) h = absurd (omega arith)

  pub ascends-one : (l : Label) (r : ℕ) → ((m : Bytes) (k : Forest) → Node src cells last 1 m → Tape src cells (last + 1) (next_at cells last) k → r ≡ rank (labels.cmp (label K q m k) l))
      → {o : Option Label} → LastIs K q src cells hi last o → last < hi → eqb r 0 ≡ precedes o (some l)
  unfolding precedes before
  ascends-one l r f (no_last e) h = absurd (omega arith)
  ascends-one l r f (last-is {m = m} {k = k} b d x y) h = ap (λ z. eqb z 0) (f m k d x) ∙ rank-first (labels.cmp (label K q m k) l)

  pub last-labelled : {text : Bytes} {table : List ℕ} {np place : ℕ} → Table text table np K → place_of K q ≡ place → {o : Option Label} → LastIs K q src cells hi last o → last < hi
      → Labelled text table np place src cells last
  last-labelled t e (no_last b) h = absurd (omega arith)
  last-labelled t e (last-is {m = m} {k = k} b d x y) h =
      record { key_list = K; path = q; tabled = t; place_is = e; name = m; kids = k; node = d; tape = x; once = y }

-- ---- one element
module _ (K : KeyList) (n : ℕ) (p : Path) (t : Times) (m : Bytes) (k : Forest) where
  pub element-unlisted : rules_kept K ≡ true → place_of K (p ▸ m) ≡ 129 → element_legal K n p t m k ≡ false
  unfolding element_legal
  element-unlisted u e = by-test (listed K (p ▸ m)) (λ l. absurd (omega (arith, place-below K u (p ▸ m) l, few-paths K u))) (λ l. rw (l, element_legal))

  module _ (e : place_of K (p ▸ m) ≡ 129 → ⊥) where
    is-listed : listed K (p ▸ m) ≡ true
    is-listed = by-test (listed K (p ▸ m)) (λ l. l) (λ l. absurd (e (place-unlisted K p m l)))

    pub element-named : same m (bytes "T") ≡ true → element_legal K n p t m k ≡ false
    unfolding element_legal
    element-named s = rw (is-listed, s, element_legal)

    pub element-front : same m (bytes "T") ≡ false → above K (p ▸ m) ≡ false → element_legal K n p t m k ≡ front_legal n t k
    unfolding element_legal
    element-front s a = rw (is-listed, s, a, element_legal)

    pub element-lack : same m (bytes "T") ≡ false → above K (p ▸ m) ≡ true → has_keys (key_names_at K (p ▸ m)) k ≡ false → element_legal K n p t m k ≡ false
    unfolding element_legal
    element-lack s a h = rw (is-listed, s, a, h, element_legal)

    pub element-inside : same m (bytes "T") ≡ false → above K (p ▸ m) ≡ true → has_keys (key_names_at K (p ▸ m)) k ≡ true → element_legal K n p t m k ≡ siblings_legal K n (p ▸ m) t k
    unfolding element_legal
    element-inside s a h = rw (is-listed, s, a, h, element_legal)

  keys-held : (b : Bool) → above K (p ▸ m) ≡ b
      → elim b as (λ _. Bool) [ true ↦ all (λ key. is_one_value (called key k)) (key_names_at K (p ▸ m)) && siblings_legal K n (p ▸ m) t k | false ↦ front_legal n t k ] ≡ true
      → has_keys (key_names_at K (p ▸ m)) k ≡ true
  unfolding all
  keys-held true b h = and_left (has_keys (key_names_at K (p ▸ m)) k) _ h
  keys-held false b h = rw (front-bare K (p ▸ m) b) refl

  pub element-once : element_legal K n p t m k ≡ true → has_keys (key_names_at K (p ▸ m)) k ≡ true
  unfolding element_legal
  element-once h = keys-held (above K (p ▸ m)) refl (and_right (listed K (p ▸ m) && not (same m (bytes "T"))) _ h)

-- what an element holds, at its place
pub walk-in : {keys : Bytes} {table : List ℕ} {np place : ℕ} {src cells : List ℕ} {e n : ℕ} {t : ℕ → Bool} {own : ℕ} → ElementAsked keys table np place src cells e n t
    → OfPlace keys table np place (λ K q. own ≡ place_of K (q ▸ bytes_at src cells e)) → Walk keys table np own src cells (e + 1) (next_at cells e)
walk-in {src = src} {cells = cells} {e = e} a h =
    let b = a.placed in
    record {
      placed = record { key_list = b.key_list; path = b.path ▸ bytes_at src cells e; table = b.table; place_is = sym (h b.key_list b.path b.table b.place_is) };
      valid = record { forest = a.kids; tape = a.tape };
    }
