-- Sorting keeps the key children of each element, and so its label.
use Rattle.std.specs.Prelude.{◌≡◌, refl, Bool, true, false, not, ◌||◌, List, [], ◌∷◌, map}
use Rattle.std.proofs.Common.{sym, ◌∙◌, ap₂}
use Rattle.std.proofs.Math.Path.{ap}
use Rattle.xml.specs.Bytes.{Bytes, all, same}
use Rattle.xml.specs.Forest.{Forest, elem}
use Rattle.keys.specs.KeyList.{Path, KeyList, key_names_at}
use Rattle.keys.specs.Version.{◌▸◌, called, is_key_value, is_one_value, unkeyed, value_in, label}
use Rattle.xml.specs.Truth.{clash, bool_by, or_left, or_right, and_left, and_right, both, or_swap}
use borrow.Author.Tests.{not-false}
use Rattle.keys.specs.Sorting.{Into, here, after, Sorting, kept, empty, put}
use Rattle.keys.specs.SortedKept.{into-kept}

-- ---- the elements of a name
abbrev when_same : Bool → Forest → List Forest → List Forest
when_same true k fs = k ∷ fs
when_same false k fs = fs

called-elem : (key n : Bytes) (k r : Forest) → called key (elem n k r) ≡ when_same (same key n) k (called key r)
unfolding called
called-elem key n k r =
    bool_by (λ x. elim x as (λ _. List Forest) [ true ↦ k ∷ called key r | false ↦ called key r ] ≡ when_same x k (called key r)) (same key n)
    (λ _. refl) (λ _. refl)

-- an element of another name is put in
into-other : (key : Bytes) {K : KeyList} {p : Path} {n : Bytes} {k f g : Forest} → same key n ≡ false → Into K p n k f g → called key g ≡ called key f
into-other key {n = n} {k = k} {f = f} e (here h) = called-elem key n k f ∙ rw e
into-other key e (after {m = m} {j = j} {r = r} {s = s} h i) =
    called-elem key m j s ∙ ap (when_same (same key m) j) (into-other key e i) ∙ sym (called-elem key m j r)

-- the only element of its name is put in
none-called : (b : Bool) (k : Forest) (fs : List Forest) → when_same b k fs ≡ [] → (b ≡ false) × (fs ≡ [])
none-called true k fs e = let z : true ≡ false = cc in clash z
none-called false k fs e = (refl, e)

into-only : (key : Bytes) {K : KeyList} {p : Path} {n : Bytes} {k f g : Forest} → same key n ≡ true → called key f ≡ [] → Into K p n k f g
    → called key g ≡ k ∷ []
into-only key {n = n} {k = k} {f = f} e o (here h) = called-elem key n k f ∙ rw (e, o)
into-only key e o (after {m = m} {j = j} {r = r} {s = s} h i) =
    let x = none-called (same key m) j (called key r) (sym (called-elem key m j r) ∙ o) in
    called-elem key m j s ∙ rw x.0 (into-only key e x.1 i)

sorted_none : (key : Bytes) {K : KeyList} {p : Path} {f g : Forest} → Sorting K p f g → called key f ≡ [] → called key g ≡ []
sorted_none key (kept a) e = e
sorted_none key (empty a) e = e
sorted_none key (put {n = n} {k = k} {r = r} a x y i) e =
    let o = none-called (same key n) k (called key r) (sym (called-elem key n k r) ∙ e) in
    into-other key o.0 i ∙ sorted_none key y o.1

-- a key value is one run of text, in which nothing is sorted
sorted-value : {K : KeyList} {p : Path} {f g : Forest} → Sorting K p f g → is_key_value f ≡ true → g ≡ f
sorted-value (kept a) e = refl
sorted-value (empty a) e = refl
sorted-value (put a x y i) e = unfold is_key_value in clash (sym e)

only-called : (k : Forest) (fs : List Forest) → is_one_value (k ∷ fs) ≡ true → (is_key_value k ≡ true) × (fs ≡ [])
unfolding is_one_value
only-called k [] e = (e, refl)
only-called k (g ∷ fs) e = clash (sym e)

-- a key child is as it was
sorted-called : (key : Bytes) {K : KeyList} {p : Path} {f g : Forest} → Sorting K p f g → is_one_value (called key f) ≡ true → called key g ≡ called key f
sorted-called key (kept a) e = refl
sorted-called key (empty a) e = refl
sorted-called key (put {n = n} {k = k} {r = r} {t = t} a x y i) e =
    let h : is_one_value (when_same (same key n) k (called key r)) ≡ true = rw (called-elem key n k r) at e in
    bool_by (λ _. called key t ≡ called key (elem n k r)) (same key n)
    (λ b.
    let o = only-called k (called key r) (rw b at h) in
    into-only key b (sorted_none key y o.1) i ∙ ap (λ z. z ∷ []) (sorted-value x o.0) ∙ sym (called-elem key n k r ∙ rw (b, o.1)))
    (λ b. into-other key b i ∙ sorted-called key y (rw b at h) ∙ sym (called-elem key n k r ∙ rw b))

-- ---- the key children of all key names
keyed-all : {K : KeyList} {p : Path} {f g : Forest} → Sorting K p f g → (ns : List Bytes) → all (λ key. is_one_value (called key f)) ns ≡ true
    → (all (λ key. is_one_value (called key g)) ns ≡ true) × (map (λ key. value_in (called key g)) ns ≡ map (λ key. value_in (called key f)) ns)
unfolding all
keyed-all t [] e = (refl, refl)
keyed-all {f = f} {g = g} t (key ∷ ns) e =
    let one = and_left (is_one_value (called key f)) (all (λ key. is_one_value (called key f)) ns) e in
    let i = keyed-all t ns (and_right (is_one_value (called key f)) (all (λ key. is_one_value (called key f)) ns) e) in
    let c = sorted-called key t one in
    (both (ap is_one_value c ∙ one) i.0, ap₂ ◌∷◌ (ap value_in c) i.1)

-- an element lacks a key child, or one in it does
abbrev unkeyed_in : KeyList → Path → Bytes → Forest → Bool
unkeyed_in K p n k = not (all (λ key. is_one_value (called key k)) (key_names_at K (p ▸ n))) || unkeyed K (p ▸ n) k

module _ (K : KeyList) (p : Path) (n : Bytes) (k r : Forest) (e : unkeyed K p (elem n k r) ≡ false) where
  pub keyed-here : all (λ key. is_one_value (called key k)) (key_names_at K (p ▸ n)) ≡ true
  unfolding unkeyed
  keyed-here =
      not-false (all (λ key. is_one_value (called key k)) (key_names_at K (p ▸ n)))
      (or_left (not (all (λ key. is_one_value (called key k)) (key_names_at K (p ▸ n)))) (unkeyed K (p ▸ n) k)
      (or_left (unkeyed_in K p n k) (unkeyed K p r) e))

  pub keyed-kids : unkeyed K (p ▸ n) k ≡ false
  unfolding unkeyed
  keyed-kids =
      or_right (not (all (λ key. is_one_value (called key k)) (key_names_at K (p ▸ n)))) (unkeyed K (p ▸ n) k)
      (or_left (unkeyed_in K p n k) (unkeyed K p r) e)

  pub keyed-rest : unkeyed K p r ≡ false
  unfolding unkeyed
  keyed-rest = or_right (unkeyed_in K p n k) (unkeyed K p r) e

  -- its label is as it was
  pub sorted-label : {j : Forest} → Sorting K (p ▸ n) k j → label K p n j ≡ label K p n k
  unfolding label
  sorted-label t = ap (◌∷◌ n) (keyed-all t (key_names_at K (p ▸ n)) keyed-here).1

keyed-elem : (K : KeyList) (p : Path) (n : Bytes) (k r : Forest) → all (λ key. is_one_value (called key k)) (key_names_at K (p ▸ n)) ≡ true
    → unkeyed K (p ▸ n) k ≡ false → unkeyed K p r ≡ false → unkeyed K p (elem n k r) ≡ false
unfolding unkeyed
keyed-elem K p n k r h u v = rw (h, u, v)

into-unkeyed : {K : KeyList} {p : Path} {n : Bytes} {k f g : Forest} → Into K p n k f g → unkeyed K p g ≡ unkeyed K p (elem n k f)
unfolding unkeyed
into-unkeyed {K} i =
    into-kept K (λ q h. unkeyed K q h) (λ p n k m j r. or_swap (unkeyed_in K p n k) (unkeyed_in K p m j) (unkeyed K p r)) (λ p n k r s e. rw e) i

-- every element still has its key children
pub sorted-keyed : {K : KeyList} {p : Path} {f g : Forest} → Sorting K p f g → unkeyed K p f ≡ false → unkeyed K p g ≡ false
sorted-keyed (kept a) e = e
sorted-keyed (empty a) e = e
sorted-keyed {K} {p} (put {n = n} {k = k} {j = j} {r = r} {s = s} a x y i) e =
    let h = (keyed-all x (key_names_at K (p ▸ n)) (keyed-here K p n k r e)).0 in
    let u = sorted-keyed x (keyed-kids K p n k r e) in
    let v = sorted-keyed y (keyed-rest K p n k r e) in
    into-unkeyed i ∙ keyed-elem K p n j s h u v
