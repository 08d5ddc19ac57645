-- One step of a history on the archive's forest: of legal siblings one at most has the label, and the walk goes on in what it holds.
use Rattle.std.specs.Prelude.{ℕ, ◌≡◌, Bool, ◌&&◌, List, [], ◌∷◌}
use Rattle.std.proofs.Math.Path.{refl, ap, ap₂}
use Rattle.std.proofs.Common.{◌∙◌, subst}
use Rattle.std.proofs.Math.Bool.{true, false, not}
use Rattle.std.proofs.Math.Option.{Option, none, some}
use mathlib.Core.Ordering.{Ordering, lt, eq, gt}
use Rattle.xml.specs.Bytes.{Bytes, bytes, all, same}
use Rattle.xml.specs.Forest.{Forest, end, elem, text, stamp}
use Rattle.xml.specs.Read.{is_end}
use Rattle.xml.specs.Truth.{and_left, and_right, both_true}
use Rattle.model.specs.Masks.{clash}
use Rattle.model.specs.Orders.{labels, is_eq, is_lt, of-is_eq}
use Rattle.keys.specs.KeyList.{Path, KeyList, listed, above, key_names_at}
use Rattle.keys.specs.KeyListLaws.{front-bare}
use Rattle.keys.specs.Version.{◌▸◌, Label, called, is_one_value, same_label, before, label}
use Rattle.keys.specs.Labelled.{has_keys}
use Rattle.timestamp.specs.Times.{Times, same_times}
use Rattle.versions.specs.Walk.{times_in, canonical, ever, within, front_legal, is_sole, first_label, precedes, siblings_legal, or_else, history_in}

-- the rest of an address in the element that it has come to: its path is p, and the nearest `T` has the text `around`
abbrev pub inside : KeyList → Path → Bytes → List Label → Forest → Option Bytes
inside K p around ls k = elim ls as (λ _. Option Bytes) [ [] ↦ some around | j ∷ js ↦ history_in K p around j js k ]

-- ---- labels
pub label_is : (a b : Label) → same_label a b ≡ true → a ≡ b
unfolding same_label
label_is a b e = labels.same (of-is_eq (labels.cmp a b) e)

of-is_lt : (o : Ordering) → is_lt o ≡ true → o ≡ lt
of-is_lt lt e = refl
of-is_lt eq e = absurd (clash e refl)
of-is_lt gt e = absurd (clash e refl)

before-other : (a b : Label) → before a b ≡ true → same_label a b ≡ false
unfolding before same_label
before-other a b e = ap is_eq (of-is_lt (labels.cmp a b) e)

precedes-on : (a b : Label) (o : Option Label) → before a b ≡ true → precedes (some b) o ≡ true → precedes (some a) o ≡ true
unfolding before precedes
precedes-on a b none e h = refl
precedes-on a b (some c) e h = ap is_lt (labels.trans (of-is_lt (labels.cmp a b) e) (of-is_lt (labels.cmp b c) h))

-- ---- what legal siblings are
-- an element m that holds k, in the versions t, before the siblings r
pub record ElementLegal (K : KeyList) (n : ℕ) (p : Path) (t : Times) (m : Bytes) (k r : Forest) : Type 0 where
  pub once : has_keys (key_names_at K (p ▸ m)) k ≡ true
  pub below : above K (p ▸ m) ≡ true → siblings_legal K n (p ▸ m) t k ≡ true
  pub ahead : precedes (some (label K p m k)) (first_label K p r) ≡ true
  pub rest : siblings_legal K n p t r ≡ true

module _ (K : KeyList) (n : ℕ) (p : Path) (t : Times) where
  keys-held : (m : Bytes) (k : Forest) (b : Bool) → above K (p ▸ m) ≡ b
      → elim b as (λ _. Bool) [ true ↦ all (λ key. is_one_value (called key k)) (key_names_at K (p ▸ m)) && siblings_legal K n (p ▸ m) t k | false ↦ front_legal n t k ] ≡ true
      → (has_keys (key_names_at K (p ▸ m)) k ≡ true) × (above K (p ▸ m) ≡ true → siblings_legal K n (p ▸ m) t k ≡ true)
  unfolding all
  keys-held m k true b h =
      (and_left (has_keys (key_names_at K (p ▸ m)) k) _ h, λ _. and_right (has_keys (key_names_at K (p ▸ m)) k) _ h)
  keys-held m k false b h = (rw (front-bare K (p ▸ m) b) refl, λ a. absurd (clash a b))

  pub element-legal : (m : Bytes) (k r : Forest) → siblings_legal K n p t (elem m k r) ≡ true → ElementLegal K n p t m k r
  unfolding siblings_legal
  element-legal m k r h =
      let h3 = both_true _ (siblings_legal K n p t r) h in
      let h2 = both_true _ (precedes (some (label K p m k)) (first_label K p r)) h3.0 in
      let h1 = keys-held m k (above K (p ▸ m)) refl (and_right (listed K (p ▸ m) && not (same m (bytes "T"))) _ h2.0) in
      record { once = h1.0; below = h1.1; ahead = h2.1; rest = h3.1 }

  -- a `T` around k, before the siblings r
  pub stamp-legal : (s : Bytes) (k r : Forest) → siblings_legal K n p t (stamp s k r) ≡ true
      → (is_sole k ≡ true) × (siblings_legal K n p (times_in n s) k ≡ true) × (precedes (first_label K p k) (first_label K p r) ≡ true) × (siblings_legal K n p t r ≡ true)
  unfolding siblings_legal
  stamp-legal s k r h =
      let v = times_in n s in
      let h7 = both_true _ (siblings_legal K n p t r) h in
      let h6 = both_true _ (precedes (first_label K p k) (first_label K p r)) h7.0 in
      let h5 = both_true _ (siblings_legal K n p v k) h6.0 in
      let h4 = both_true _ (not (same_times v t)) h5.0 in
      let h3 = both_true _ (within v t) h4.0 in
      let h2 = both_true _ (ever v) h3.0 in
      (and_left (is_sole k) (canonical n s) h2.0, h5.1, h6.1, h7.1)

pub sole-end : (r : Forest) → is_end r ≡ true → r ≡ end
unfolding is_end
sole-end end e = refl
sole-end (text b r) e = absurd (clash e refl)
sole-end (elem m k r) e = absurd (clash e refl)
sole-end (stamp s k r) e = absurd (clash e refl)

pub sole-is : (k : Forest) → is_sole k ≡ true → (m : Bytes) × (j : Forest) × (k ≡ elem m j end)
unfolding is_sole
sole-is end e = absurd (clash e refl)
sole-is (text b r) e = absurd (clash e refl)
sole-is (elem m j r) e = (m, j, ap (elem m j) (sole-end r e))
sole-is (stamp s j r) e = absurd (clash e refl)

-- a `T` is around one element
pub stamp-sole : (K : KeyList) (n : ℕ) (p : Path) (t : Times) (s : Bytes) (m : Bytes) (j r : Forest) → siblings_legal K n p t (stamp s (elem m j end) r) ≡ true
    → ElementLegal K n p (times_in n s) m j end × (precedes (some (label K p m j)) (first_label K p r) ≡ true) × (siblings_legal K n p t r ≡ true)
unfolding first_label
stamp-sole K n p t s m j r h =
    let g = stamp-legal K n p t s (elem m j end) r h in (element-legal K n p (times_in n s) m j end g.1, g.2, g.3)

-- ---- a step
pub or-none : {A : Type 0} (o : Option A) → or_else o none ≡ o
or-none none = refl
or-none (some a) = refl

module _ (K : KeyList) (p : Path) (l : Label) (m : Bytes) (k : Forest) where
  pub step_past : (r : Forest) → same_label l (label K p m k) ≡ false → (around : Bytes) (ls : List Label) → history_in K p around l ls (elem m k r) ≡ history_in K p around l ls r
  unfolding history_in
  step_past r e around ls = rw (e, history_in)

  pub step-here : (r : Forest) → same_label l (label K p m k) ≡ true → (around : Bytes) (ls : List Label) → history_in K p around l ls (elem m k r) ≡ inside K (p ▸ m) around ls k
  unfolding history_in
  step-here r e around ls = rw (e, history_in)

  pub timed-past : (s : Bytes) (r : Forest) → same_label l (label K p m k) ≡ false → (around : Bytes) (ls : List Label)
      → history_in K p around l ls (stamp s (elem m k end) r) ≡ history_in K p around l ls r
  unfolding history_in
  timed-past s r e around ls = ap (λ o. or_else o (history_in K p around l ls r)) (step_past end e s ls)

  pub timed-here : (s : Bytes) (r : Forest) → same_label l (label K p m k) ≡ true → ((around : Bytes) (ls : List Label) → history_in K p around l ls r ≡ none)
      → (around : Bytes) (ls : List Label) → history_in K p around l ls (stamp s (elem m k end) r) ≡ inside K (p ▸ m) s ls k
  unfolding history_in
  timed-here s r e f around ls = ap₂ or_else (step-here end e s ls) (f around ls) ∙ or-none (inside K (p ▸ m) s ls k)

-- labels ascend, so behind a label it stands nowhere
pub none-behind : (K : KeyList) (n : ℕ) (p : Path) (t : Times) (l : Label) (f : Forest) → siblings_legal K n p t f ≡ true → precedes (some l) (first_label K p f) ≡ true
    → (around : Bytes) (ls : List Label) → history_in K p around l ls f ≡ none
unfolding history_in siblings_legal first_label precedes
none-behind K n p t l end h b around ls = refl
none-behind K n p t l (text c r) h b around ls = absurd (clash h refl)
none-behind K n p t l (elem m k r) h b around ls =
    let g = element-legal K n p t m k r h in
    step_past K p l m k r (before-other l (label K p m k) b) around ls ∙ none-behind K n p t l r g.rest (precedes-on l (label K p m k) (first_label K p r) b g.ahead) around ls
none-behind K n p t l (stamp s k r) h b around ls =
    let g = stamp-legal K n p t s k r h in
    ap₂ or_else (none-behind K n p (times_in n s) l k g.1 b s ls) (none-behind K n p t l r g.3 (on (sole-is k g.0) g.2) around ls)
  where
    on : (m : Bytes) × (j : Forest) × (k ≡ elem m j end) → precedes (first_label K p k) (first_label K p r) ≡ true → precedes (some l) (first_label K p r) ≡ true
    on x a =
        let d : first_label K p k ≡ some (label K p x.0 x.1) = ap (first_label K p) x.2 in
        precedes-on l (label K p x.0 x.1) (first_label K p r) (subst (λ o. precedes (some l) o ≡ true) d b) (subst (λ o. precedes o (first_label K p r) ≡ true) d a)
