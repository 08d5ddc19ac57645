-- The elements of a name among siblings, counted as none, one (with its key value) or many: this does not change with their order. An
-- element's key children, and its label where they are legal, are read off these counts.
use Rattle.std.specs.Prelude.{◌≡◌, Bool, ◌&&◌}
use Rattle.std.proofs.Math.Path.{refl, ap}
use Rattle.std.proofs.Common.{sym, ◌∙◌, ap₂}
use Rattle.std.proofs.Math.Bool.{true, false}
use mathlib.Core.List.{List, [], ◌∷◌}
use Rattle.xml.specs.Bytes.{Bytes, any, all, same}
use Rattle.xml.specs.BytesLaws.{same_self}
use Rattle.xml.specs.Truth.{clash, bool_by, and_left, and_right, or-first, or-second}
use Rattle.xml.specs.Forest.{Forest, elem, text}
use Rattle.keys.specs.KeyList.{Path, KeyList, key_names_at}
use Rattle.keys.specs.Version.{◌▸◌, called, is_key_value, is_one_value, run_in, value_in, label}
use Rattle.keys.specs.Labelled.{values_of, has_keys}

pub data Tally : Type 0 where
  none : Tally
  one : (legal : Bool) (run : Bytes) → Tally
  many : Tally

abbrev plus : Forest → Tally → Tally
plus f none = one (is_key_value f) (run_in f)
plus f (one b w) = many
plus f many = many

-- one more, if the test says so
abbrev pub with : Bool → Forest → Tally → Tally
with true f t = plus f t
with false f t = t

tally : List Forest → Tally
tally [] = none
tally (f ∷ fs) = plus f (tally fs)

-- how many elements of a name there are
pub tallied : Bytes → Forest → Tally
tallied key f = tally (called key f)

pub with-swap : (a b : Bool) (f g : Forest) (t : Tally) → with a f (with b g t) ≡ with b g (with a f t)
with-swap true true f g none = refl
with-swap true true f g (one b w) = refl
with-swap true true f g many = refl
with-swap true false f g t = refl
with-swap false b f g t = refl

-- an element counts by its key value alone
pub with_value : (b : Bool) (f g : Forest) (t : Tally) → is_key_value f ≡ is_key_value g → run_in f ≡ run_in g → with b f t ≡ with b g t
with_value true f g none e h = ap₂ one e h
with_value true f g (one b w) e h = refl
with_value true f g many e h = refl
with_value false f g t e h = refl

module _ (key : Bytes) where
  pub tallied-elem : (n : Bytes) (k r : Forest) → tallied key (elem n k r) ≡ with (same key n) k (tallied key r)
  unfolding tallied called tally
  tallied-elem n k r =
      bool_by (λ x. tally (elim x as (λ _. List Forest) [ true ↦ k ∷ called key r | false ↦ called key r ]) ≡ with x k (tally (called key r))) (same key n)
      (λ _. refl) (λ _. refl)

  pub tallied-text : (b : Bytes) (r : Forest) → tallied key (text b r) ≡ tallied key r
  unfolding tallied called
  tallied-text b r = refl

-- ---- key children and their values
is_one : Tally → Bool
is_one none = false
is_one (one b w) = b
is_one many = false

run_of : Tally → Bytes
run_of none = []
run_of (one b w) = w
run_of many = []

one-tally : (fs : List Forest) → is_one_value fs ≡ is_one (tally fs)
unfolding is_one_value is_one tally
one-tally [] = refl
one-tally (f ∷ []) = refl
one-tally (f ∷ g ∷ fs) = go (tally fs)
  where
    go : (t : Tally) → false ≡ is_one (plus f (plus g t))
    go none = refl
    go (one b w) = refl
    go many = refl

run-tally : (fs : List Forest) → is_one_value fs ≡ true → value_in fs ≡ run_of (tally fs)
unfolding is_one_value value_in run_of tally
run-tally [] e = refl
run-tally (f ∷ []) e = refl
run-tally (f ∷ g ∷ fs) e = clash (sym e)

each-tally : (f g : Forest) (ns : List Bytes) → ((key : Bytes) → any (same key) ns ≡ true → tallied key f ≡ tallied key g)
    → (has_keys ns f ≡ has_keys ns g) × (has_keys ns f ≡ true → values_of ns f ≡ values_of ns g)
unfolding any all tallied
each-tally f g [] h = (refl, λ _. refl)
each-tally f g (n ∷ ns) h =
    let i = each-tally f g ns (λ x m. h x (or-second (same x n) (any (same x) ns) m)) in
    let t = h n (or-first (same n n) (any (same n) ns) (same_self n)) in
    let o : is_one_value (called n f) ≡ is_one_value (called n g) = one-tally (called n f) ∙ ap is_one t ∙ sym (one-tally (called n g)) in (
      ap₂ ◌&&◌ o i.0,
      λ e.
          let x = and_left (is_one_value (called n f)) (has_keys ns f) e in
          ap₂ ◌∷◌ (run-tally (called n f) x ∙ ap run_of t ∙ sym (run-tally (called n g) (sym o ∙ x))) (i.1 (and_right (is_one_value (called n f)) (has_keys ns f) e)),
    )

-- what an element n may hold, with the same counts for all its key names
module _ (K : KeyList) (p : Path) (n : Bytes) (k j : Forest)
    (same-tallies : (key : Bytes) → any (same key) (key_names_at K (p ▸ n)) ≡ true → tallied key k ≡ tallied key j) where
  pub same_keys : has_keys (key_names_at K (p ▸ n)) k ≡ has_keys (key_names_at K (p ▸ n)) j
  same_keys = (each-tally k j (key_names_at K (p ▸ n)) same-tallies).0

  pub same-label : has_keys (key_names_at K (p ▸ n)) k ≡ true → label K p n k ≡ label K p n j
  unfolding label
  same-label e = ap (◌∷◌ n) ((each-tally k j (key_names_at K (p ▸ n)) same-tallies).1 e)
