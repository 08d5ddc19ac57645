-- A step of a history on the tape: the sibling with the label of the step, an element or a `T` around one, and what is in its element.
use Rattle.std.specs.Prelude.{ℕ, ◌+◌, ◌*◌, ◌%◌, ◌<◌, ◌≤◌, ◌≡◌, refl, List, length}
use Rattle.std.proofs.Common.{arith, ◌∙◌}
use Rattle.std.proofs.Math.Path.{sym, ap, subst}
use Rattle.std.proofs.Math.Bool.{true, false}
use Rattle.std.proofs.Math.Option.{none}
use borrow.Author.Tests.{eq-eqb, ne_eqb}
use Rattle.std.proofs.Math.Dec.{eqb}
use Rattle.xml.specs.Bytes.{Bytes}
use Rattle.xml.specs.Forest.{Forest, end, elem, stamp}
use Rattle.xml.specs.Tape.{head_at, next_at, end_in, Node, Tape, at-end, at-text, at-elem, at-stamp}
use Rattle.xml.specs.TapeLaws.{bytes_at, tape-le, tape-none, front}
use Rattle.model.specs.Masks.{clash}
use Rattle.keys.specs.KeyList.{Path, KeyList, above, key_names_at}
use Rattle.keys.specs.Version.{◌▸◌, Label, name_in, same_label, label}
use Rattle.keys.specs.Labelled.{has_keys}
use Rattle.timestamp.specs.Times.{Times}
use Rattle.versions.specs.Walk.{times_in, siblings_legal, history_in}
use Rattle.versions.specs.HistorySteps.{inside, label_is, element-legal, stamp-legal, sole-is, stamp-sole, step_past, step-here, timed-past, timed-here, none-behind}

-- the element that the sibling p is, or is around
unfoldable pub element_at : List ℕ → ℕ → ℕ
element_at cells p = elim (eqb (head_at cells p % 4) 2) [ true ↦ p + 1 | false ↦ p ]

-- the text of the nearest `T` in the sibling p, in siblings where that is `around`
unfoldable pub near_at : List ℕ → List ℕ → ℕ → Bytes → Bytes
near_at src cells p around = elim (eqb (head_at cells p % 4) 2) [ true ↦ bytes_at src cells p | false ↦ around ]

module _ (cells : List ℕ) (p : ℕ) where
  pub element-timed : head_at cells p % 4 ≡ 2 → element_at cells p ≡ p + 1
  unfolding element_at
  element-timed h = rw (eq-eqb (head_at cells p % 4) 2 h, element_at)

  pub element-bare : (head_at cells p % 4 ≡ 2 → ⊥) → element_at cells p ≡ p
  unfolding element_at
  element-bare h = rw (ne_eqb (head_at cells p % 4) 2 h, element_at)

-- ---- the sibling p, the first of the siblings f
pub record Sibling (src cells : List ℕ) (K : KeyList) (n : ℕ) (q : Path) (t : Times) (p hi : ℕ) (f : Forest) : Type 0 where
  pub name : Bytes
  pub kids : Forest
  pub rest : Forest
  pub own : Times
  pub node : Node src cells (element_at cells p) 1 name
  pub tape : Tape src cells (element_at cells p + 1) (next_at cells (element_at cells p)) kids
  pub next : next_at cells (element_at cells p) ≡ next_at cells p
  pub after : Tape src cells (next_at cells p) hi rest
  pub once : has_keys (key_names_at K (q ▸ name)) kids ≡ true
  pub below : above K (q ▸ name) ≡ true → siblings_legal K n (q ▸ name) own kids ≡ true
  pub legal : siblings_legal K n q t rest ≡ true
  pub other : (l : Label) → same_label l (label K q name kids) ≡ false → (around : Bytes) (ls : List Label) → history_in K q around l ls f ≡ history_in K q around l ls rest
  pub here : (l : Label) → same_label l (label K q name kids) ≡ true → (around : Bytes) (ls : List Label)
      → history_in K q around l ls f ≡ inside K (q ▸ name) (near_at src cells p around) ls kids

module _ {src cells : List ℕ} (K : KeyList) (n : ℕ) (q : Path) (t : Times) {p hi : ℕ} where
  element-sibling : (m : Bytes) (k r : Forest) → Node src cells p 1 m → Tape src cells (p + 1) (next_at cells p) k → Tape src cells (next_at cells p) hi r
      → siblings_legal K n q t (elem m k r) ≡ true → Sibling src cells K n q t p hi (elem m k r)
  unfolding near_at
  element-sibling m k r d x y h =
      let g = element-legal K n q t m k r h in
      let b : eqb (head_at cells p % 4) 2 ≡ false = ne_eqb (head_at cells p % 4) 2 (omega (arith, d.kind-is)) in
      let e = element-bare cells p (λ z. omega (arith, d.kind-is)) in
      record {
        name = m;
        kids = k;
        rest = r;
        own = t;
        node = rw e d;
        tape = rw e x;
        next = ap (next_at cells) e;
        after = y;
        once = g.once;
        below = g.below;
        legal = g.rest;
        other = λ l u around ls. step_past K q l m k r u around ls;
        here = λ l u around ls. step-here K q l m k r u around ls ∙ ap (λ a. inside K (q ▸ m) a ls k) (sym (rw (b, near_at)));
      }

  timed-sibling : (s m : Bytes) (k r : Forest) → Node src cells p 2 s → Tape src cells (p + 1) (next_at cells p) (elem m k end) → Tape src cells (next_at cells p) hi r
      → siblings_legal K n q t (stamp s (elem m k end) r) ≡ true → Sibling src cells K n q t p hi (stamp s (elem m k end) r)
  unfolding near_at
  timed-sibling s m k r d (at-elem i x (at-end z)) y h =
      let g = stamp-sole K n q t s m k r h in
      let b : eqb (head_at cells p % 4) 2 ≡ true = eq-eqb (head_at cells p % 4) 2 d.kind-is in
      let e = element-timed cells p d.kind-is in
      record {
        name = m;
        kids = k;
        rest = r;
        own = times_in n s;
        node = rw e i;
        tape = rw e x;
        next = ap (next_at cells) e ∙ z;
        after = y;
        once = g.0.once;
        below = g.0.below;
        legal = g.2;
        other = λ l u around ls. timed-past K q l m k s r u around ls;
        here = λ l u around ls.
            let c : l ≡ label K q m k = label_is l (label K q m k) u in
            timed-here K q l m k s r u (rw c (none-behind K n q t (label K q m k) r g.2 g.1)) around ls
            ∙ ap (λ a. inside K (q ▸ m) a ls k) (sym d.bytes-are ∙ sym (rw (b, near_at)));
      }

  pub sibling : {f : Forest} → Tape src cells p hi f → p < hi → siblings_legal K n q t f ≡ true → Sibling src cells K n q t p hi f
  unfolding siblings_legal
  sibling (at-end e) b h = absurd (omega arith)
  sibling (at-text d u e r) b h = absurd (clash h refl)
  sibling (at-elem {n = m} {k = k} {r = r} d x y) b h = element-sibling m k r d x y h
  sibling (at-stamp {t = s} {k = k} {r = r} d x y) b h =
      let g = sole-is k (stamp-legal K n q t s k r h).0 in
      subst (λ z. Sibling src cells K n q t p hi (stamp s z r)) (sym g.2)
      (timed-sibling s g.0 g.1 r d (subst (λ z. Tape src cells (p + 1) (next_at cells p) z) g.2 x) y (subst (λ z. siblings_legal K n q t (stamp s z r) ≡ true) g.2 h))

-- ---- what is answered of a label l in the siblings f, which end at hi
-- the sibling r is, or is around, the element l
pub record Reached (src cells : List ℕ) (K : KeyList) (n : ℕ) (q : Path) (l : Label) (f : Forest) (r : ℕ) : Type 0 where
  pub kids : Forest
  pub own : Times
  pub held : 2 * r + 1 < length cells
  pub within : end_in (head_at cells r) ≤ length src
  pub tape : Tape src cells (element_at cells r + 1) (next_at cells r) kids
  pub below : above K (q ▸ name_in l) ≡ true → siblings_legal K n (q ▸ name_in l) own kids ≡ true
  pub on : (around : Bytes) (ls : List Label) → history_in K q around l ls f ≡ inside K (q ▸ name_in l) (near_at src cells r around) ls kids

pub record StepAt (src cells : List ℕ) (K : KeyList) (n : ℕ) (q : Path) (l : Label) (hi : ℕ) (f : Forest) (r : ℕ) : Type 0 where
  pub missing : r ≡ hi → (around : Bytes) (ls : List Label) → history_in K q around l ls f ≡ none
  pub there : (r ≡ hi → ⊥) → Reached src cells K n q l f r

-- a search on its way: the siblings from p on are left
pub record StepLeft (src cells : List ℕ) (K : KeyList) (n : ℕ) (q : Path) (l : Label) (t : Times) (p hi : ℕ) (f : Forest) : Type 0 where
  pub left : Forest
  pub tape : Tape src cells p hi left
  pub legal : siblings_legal K n q t left ≡ true
  pub same : (around : Bytes) (ls : List Label) → history_in K q around l ls f ≡ history_in K q around l ls left

module _ {src cells : List ℕ} {K : KeyList} {n : ℕ} {q : Path} {l : Label} {t : Times} {hi : ℕ} {f : Forest} where
  pub left-start : {p : ℕ} → Tape src cells p hi f → siblings_legal K n q t f ≡ true → StepLeft src cells K n q l t p hi f
  left-start x h = record { left = f; tape = x; legal = h; same = λ around ls. refl }

  pub left-sibling : {p : ℕ} (x : StepLeft src cells K n q l t p hi f) → p < hi → Sibling src cells K n q t p hi x.left
  left-sibling x b = sibling K n q t x.tape b x.legal

  pub left-on : {p : ℕ} (x : StepLeft src cells K n q l t p hi f) (b : p < hi) → same_label l (label K q (left-sibling x b).name (left-sibling x b).kids) ≡ false
      → StepLeft src cells K n q l t (next_at cells p) hi f
  left-on x b e =
      let g = left-sibling x b in
      record { left = g.rest; tape = g.after; legal = g.legal; same = λ around ls. x.same around ls ∙ g.other l e around ls }

  pub left_here : {p : ℕ} (x : StepLeft src cells K n q l t p hi f) (b : p < hi) → same_label l (label K q (left-sibling x b).name (left-sibling x b).kids) ≡ true
      → StepAt src cells K n q l hi f p
  unfolding label name_in
  left_here {p} x b e =
      let g = left-sibling x b in
      let d : q ▸ g.name ≡ q ▸ name_in l = ap (λ z. q ▸ z) (sym (ap name_in (label_is l (label K q g.name g.kids) e))) in
      let w = front x.tape b in
      record {
        missing = λ z. absurd (omega arith);
        there = λ _. record {
          kids = g.kids;
          own = g.own;
          held = w.held;
          within = w.within;
          tape = rw g.next at g.tape;
          below = subst (λ z. above K z ≡ true → siblings_legal K n z g.own g.kids ≡ true) d g.below;
          on = λ around ls. x.same around ls ∙ g.here l e around ls ∙ ap (λ z. inside K z (near_at src cells p around) ls g.kids) d;
        };
      }

  pub left-none : {p : ℕ} → StepLeft src cells K n q l t p hi f → hi ≤ p → StepAt src cells K n q l hi f p
  unfolding history_in
  left-none {p} x b =
      let e : p ≡ hi = omega (arith, tape-le x.tape) in
      record {
        missing = λ _ around ls. x.same around ls ∙ ap (history_in K q around l ls) (tape-none (rw e at x.tape));
        there = λ z. absurd (z e);
      }
